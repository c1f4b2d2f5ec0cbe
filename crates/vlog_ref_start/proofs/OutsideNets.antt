-- What stands around a design gives each input of its top, where a moment has all of it.
use Rattle.std.proofs.Common.{◌≡◌, ℕ, Bool, true, false, cond, List, [], ◌∷◌, Option, Some, None, inl, refl, sym, ap, subst, ◌∙◌, map}
use Rattle.std.specs.Prelude.{◌==◌, bytes_eq}
use Rattle.std.specs.Option.{option_map}
use Rattle.std.specs.List.{filter}
use Rattle.tapa_base.specs.declared.shape.Port.{Port}
use Rattle.vlog_tree.specs.declared.tree.PortDecl.{PortDecl}
use Rattle.vlog_tree.specs.declared.table.Declaration.{Declaration}
use Rattle.vlog_tree.specs.declared.table.NetKind.TheVariants.{Input, Output}
use Rattle.vlog_tree.specs.Form.{ModuleTree, is_input}
use Rattle.tapa_base.specs.Lists.{Has}
use Rattle.vlog_tree.specs.Table.{Name, is_clk, declared, port_declared, items_declared, net_kind_of, bits_of, net_kind_is_input, first_violation}
use Rattle.vlog_tree.specs.Labels.{rst, m_ack, m_rdata, m_addr, scalar_of, ack_of, rdata_of, read_of, address_of}
use Rattle.vlog_tree.specs.V2.{v2_uses}
use Rattle.vlog_tree.specs.V6.{v6_uses, is_top, has_port}
use Rattle.vlog_tree.specs.Environment.{scalar_label, memory_label, ready_at}
use Rattle.vlog_tree.specs.Flattened.{FlatNet}
use Rattle.vlog_tree.specs.Loops.{asked_port}
use Rattle.tapa_base.proofs.Lists.{has_flat, has_map, some_of}
use Rattle.vlog_run_laws.proofs.runs.TopPorts.{input_port, five_of, five_rdata}
use Rattle.vlog_run_laws.proofs.runs.Cycles.{port_stands}
use Rattle.vlog_run_laws.proofs.runs.Settled.{answers}
use Rattle.vlog_run_laws.proofs.runs.Ports.{fits, named_port, rdata_input, input_has_label}
use Rattle.vlog_run_laws.proofs.runs.Labelled.{rdata_label, ack_of_label}
use Rattle.vlog_values.specs.declared.numbers.NetNumber.{NetNumber}
use Rattle.vlog_values.specs.Numbers.{first_net}
use Rattle.vlog_values.specs.declared.moment.OutsideMemory.{OutsideMemory}
use Rattle.vlog_values.specs.declared.moment.Moment.{Moment}
use Rattle.vlog_ref_cycle.specs.Sources.{RuleTree, SourceTree, given_number, memory_of, rdata_source, ack_source, scalar_source, input_source}
use Rattle.vlog_ref_start.specs.Whole.{IsWhole}
use Rattle.vlog_ref_start.proofs.Deeper.{IsFound, IsGiven, number_answered, cells_answered}

of_input : (b : Bool) → cond b Input Output ≡ Input → b ≡ true
of_input true h = refl
of_input false h = cc

module _ (ms : List ModuleTree) (names : first_violation (v2_uses ms) ≡ None) (tops : first_violation (v6_uses ms) ≡ None) (m : ModuleTree) (in_ms : Has ms m) (top : is_top ms m.name ≡ true) (now : Moment) (whole : IsWhole ms m now) where
  abbrev ports : List Declaration
  ports = map port_declared m.ports

  number_given : (n : ℕ) → IsGiven ms m now (Some (given_number n))
  number_given n = (given_number n, refl, number_answered ms m now n)

  scalar_there : (p : PortDecl) → Has m.ports p → (l : Name) → scalar_of p.name ≡ Some l → (v : NetNumber) × (first_net now.scalars.items l ≡ Some v)
  scalar_there p h l e =
      let k : Port = record { name = l; bits = p.width } in
      some_of (first_net now.scalars.items l) (whole.scalars k (has_flat (λ (p : PortDecl). scalar_label p (scalar_of p.name)) m.ports p k h (subst (λ o. Has (scalar_label p o) k) (sym e) (inl refl))))

  -- a memory is there by its ack
  memory_there : (p : PortDecl) → Has m.ports p → (l : Name) → ack_of p.name ≡ Some l → (o : OutsideMemory) × (memory_of now.outside.items l ≡ Some o)
  memory_there p h l e =
      let k : Port = record { name = l; bits = bits_of (declared m) (m_rdata l) } in
      some_of (memory_of now.outside.items l)
      (whole.outside k (has_flat (λ (p : PortDecl). memory_label (declared m) (ack_of p.name)) m.ports p k h (subst (λ o. Has (memory_label (declared m) o) k) (sym e) (inl refl))))

  module _ (p : PortDecl) (h : Has m.ports p) (asked : (l : Name) → rdata_of p.name ≡ Some l → IsFound ms m now ([], m_addr l)) where
    scalar_given : (l : Name) → scalar_of p.name ≡ Some l → (others : Option SourceTree) → IsGiven ms m now (scalar_source now.scalars.items (Some l) others)
    scalar_given l e others =
        let v = scalar_there p h l e in
        (given_number v.0.number, ap (λ o. option_map (λ (v : NetNumber). given_number v.number) o) v.1, number_answered ms m now v.0.number)

    ack_given : (l : Name) → ack_of p.name ≡ Some l → (others : Option SourceTree) → IsGiven ms m now (ack_source now.cycle now.outside.items (Some l) others)
    ack_given l e others =
        let o = memory_there p h l e in
        let n : ℕ = ready_at o.0.ready.items now.cycle in
        (given_number n, ap (λ o. option_map (λ (o : OutsideMemory). given_number (ready_at o.ready.items now.cycle)) o) o.1, number_answered ms m now n)

    rdata_given : (l : Name) → rdata_of p.name ≡ Some l → IsGiven ms m now (rdata_source now.outside.items (Some l))
    rdata_given l e =
        let f = fits ms names tops m in_ms top p h in
        let five = (rdata_input ports f.0 p f.1 l e).1 in
        let q = named_port ms names tops m in_ms top (m_ack l) (five_of ms tops m in_ms l five).0 in
        let o = memory_there q.0 q.1 l (ap ack_of q.2 ∙ ack_of_label l (rdata_label p.name l e).1) in (
          record { path = []; reads = record { name = m_addr l; bits = 0; number = 0 } ∷ []; rule = RuleTree.cells o.0.cells.items },
          ap (λ o. option_map (λ (o : OutsideMemory). record { path = []; reads = record { name = m_addr l; bits = 0; number = 0 } ∷ []; rule = RuleTree.cells o.cells.items }) o) o.1,
          cells_answered ms m now (m_addr l) o.0.cells.items (asked l e),
        )

    port_given : is_input p.direction ≡ true → is_clk p.name ≡ false → (b : Bool) (so ao ro : Option Name) → bytes_eq p.name rst ≡ b → scalar_of p.name ≡ so → ack_of p.name ≡ ao → rdata_of p.name ≡ ro
        → IsGiven ms m now (cond b (Some (given_number (cond (now.cycle == 0) 1 0))) (scalar_source now.scalars.items so (ack_source now.cycle now.outside.items ao (rdata_source now.outside.items ro))))
    port_given i c true so ao ro r es ea er = number_given (cond (now.cycle == 0) 1 0)
    port_given i c false (Some l) ao ro r es ea er = scalar_given l es (ack_source now.cycle now.outside.items ao (rdata_source now.outside.items ro))
    port_given i c false None (Some l) ro r es ea er = ack_given l ea (rdata_source now.outside.items ro)
    port_given i c false None None (Some l) r es ea er = rdata_given l er
    port_given i c false None None None r es ea er = let f = fits ms names tops m in_ms top p h in absurd (input_has_label ports f.0 p f.1 i c r es ea er)

  -- a memory's answer rests on the place that it is asked for
  asked_here : (x l : Name) → rdata_of x ≡ Some l → net_kind_is_input (net_kind_of ports x) ≡ true → has_port ports (m_addr l) ≡ true → Has (asked_port ports x) (m_addr l)
  asked_here x l e input addr =
      subst (λ b. Has {N = Name} (cond b (filter (has_port ports) (address_of x)) []) (m_addr l)) (sym input)
      (subst (λ o. Has {N = Name} (filter (has_port ports) (read_of o)) (m_addr l)) (sym e)
      (subst (λ b. Has {N = Name} (cond b (m_addr l ∷ []) []) (m_addr l)) (sym addr) (inl refl)))

  -- an input of the top has a source, where the place that it asks for is found
  pub input_given : (x : Name) → net_kind_of (declared m) x ≡ Input → is_clk x ≡ false → ((b : FlatNet) → Has (answers m ([], x)) b → IsFound ms m now b) → IsGiven ms m now (input_source now x)
  input_given x e c f =
      let p = input_port m x e in
      let asked : (l : Name) → rdata_of p.0.name ≡ Some l → IsFound ms m now ([], m_addr l) = λ l r.
      (let g = fits ms names tops m in_ms top p.0 p.1 in
      let five = (rdata_input ports g.0 p.0 g.1 l r).1 in
      let there : has_port ports x ≡ true = subst (λ z. has_port ports z ≡ true) (sym (rdata_label p.0.name l r).0 ∙ p.2) (five_rdata ms tops m in_ms l five) in
      let input : net_kind_is_input (net_kind_of ports x) ≡ true = ap (λ (d : Declaration). net_kind_is_input d.net_kind) (sym (port_stands ports (items_declared m.items) x there)) ∙ ap net_kind_is_input e in
      f ([], m_addr l) (has_map (λ (y : Name). ([], y)) (asked_port ports x) (m_addr l) (asked_here x l (ap rdata_of (sym p.2) ∙ r) input (five_of ms tops m in_ms l five).1))) in
      subst (λ z. IsGiven ms m now (input_source now z)) p.2
      (port_given p.0 p.1 asked (of_input (is_input p.0.direction) (ap (λ (d : Declaration). d.net_kind) p.3 ∙ e)) (ap is_clk p.2 ∙ c) (bytes_eq p.0.name rst) (scalar_of p.0.name) (ack_of p.0.name) (rdata_of p.0.name) refl refl refl refl)
