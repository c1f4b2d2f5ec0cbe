-- What memories outside answer.
use Rattle.std.proofs.Common.{◌≡◌, ℕ, ◌+◌, ◌^◌, ◌<◌, Bool, true, cond, ◌&&◌, List, [], ◌∷◌, Option, Some, None, inl, length, get_or, refl, sym, ap, subst, ◌∙◌, map, arith}
use Rattle.std.specs.Prelude.{◌==◌, not, slice_get, IsSome}
use Rattle.std.specs.List.{filter}
use Rattle.std.specs.Option.{option_map_or}
use Rattle.std.proofs.lemmas.Bool.{eqb-true}
use Rattle.tapa_base.specs.declared.shape.Port.{Port}
use Rattle.vlog_tree.specs.declared.table.Declaration.{Declaration}
use Rattle.vlog_tree.specs.Form.{ModuleTree, is_input}
use Rattle.vlog_tree.specs.declared.tree.PortDecl.{PortDecl}
use Rattle.vlog_tree.specs.declared.table.NetKind.TheVariants.{Input, Unknown}
use Rattle.vlog_tree.specs.Loops.{asked_port}
use Rattle.vlog_tree.specs.Flattened.{parts}
use Rattle.tapa_base.specs.Lists.{Has}
use Rattle.vlog_tree.specs.Labels.{ack_of, addr_of, m_ack, m_addr, m_rdata, read_of, address_of}
use Rattle.vlog_tree.specs.Table.{Name, declared, port_declared, items_declared, declaration_name, find_name, net_kind_of, net_kind_is_read, net_kind_is_input, bits_of, first_violation}
use Rattle.vlog_tree.specs.V6.{v6_uses, is_top, port_fits, addr_fits, wdata_fits, we_fits, has_all_five, is_out, has_port}
use Rattle.vlog_tree.specs.Environment.{shape_of, memory_label}
use Rattle.tapa_base.proofs.Lists.{of_map, has_map, has_flat, got_has}
use Rattle.vlog_scope.proofs.Found.{missing}
use Rattle.vlog_scope.specs.NameTable.{places_from}
use Rattle.vlog_run_laws.proofs.runs.Parts.{part_answer}
use Rattle.vlog_run_laws.proofs.runs.Sizes.{found_name}
use Rattle.vlog_run_laws.proofs.runs.Cycles.{port_stands}
use Rattle.vlog_tree.proofs.Labelled.{label_of}
use Rattle.vlog_run_laws.proofs.runs.Labelled.{ack_of_label, rdata_of_label}
use Rattle.vlog_run_laws.proofs.runs.TopPorts.{memory_clock, port_right, five_of}
use Rattle.vlog_run_laws.proofs.runs.Settled.{top_tree}
use Rattle.sim_tape.specs.declared.gates.Pair.{Pair}
use Rattle.sim_tape.specs.Operators.{Cells, cell_in}
use Rattle.sim_tape.specs.Tape.{TapeTree, IsTape, number_at, pair_value}
use Rattle.sim_tape.specs.Solved.{IsSolved}
use Rattle.sim_gates.proofs.Pairs.{single, low_is}
use Rattle.sim_flat.specs.declared.flat.Flat.{Flat}
use Rattle.sim_flat.specs.Flat.{IsFlat, HasNumber}
use Rattle.sim_flat.proofs.Standing.{top_low, top_is}
use Rattle.sim_flat.proofs.Linked.{input_port_is}
use Rattle.sim_design.specs.States.{HasNumbersOf, PartsPlaced}
use Rattle.sim_design.specs.Lines.{IsLabelAt}
use Rattle.sim_design.proofs.Parts.{numbered, declared_here}
use Rattle.tapa_base.proofs.Tests.{both_true, true_not_false}

-- the label of a net at which a memory is asked
addr_label : (l : Name) → 0 < length l → addr_of (m_addr l) ≡ Some l
unfolding addr_of m_addr
addr_label l some = label_of _ _ l some

module _ (ms : List ModuleTree) (tops : first_violation (v6_uses ms) ≡ None) (m : ModuleTree) (in_ms : Has ms m) (top : is_top ms m.name ≡ true) (l : Name) (some : 0 < length l) (five : has_all_five (map port_declared m.ports) l ≡ true) where
  abbrev ports : List Declaration
  ports = map port_declared m.ports

  read : net_kind_is_read (net_kind_of ports (m_addr l)) ≡ true
  read = (five_of ms tops m in_ms l five).1

  pub asked_read : net_kind_is_read (net_kind_of (declared m) (m_addr l)) ≡ true
  asked_read = ap (λ (d : Declaration). net_kind_is_read d.net_kind) (port_stands ports (items_declared m.items) (m_addr l) read) ∙ read

  -- memories are asked with 64 bits
  pub asked_wide : bits_of (declared m) (m_addr l) ≡ 64
  unfolding port_fits addr_fits
  asked_wide =
      let f = found_name ports (m_addr l) net_kind_is_read refl read in
      let t = of_map port_declared m.ports (find_name ports (m_addr l)) f.0 in
      let name : t.0.name ≡ m_addr l = ap (λ (d : Declaration). d.name) t.2 ∙ f.1 in
      let r = port_right ms tops m in_ms top t.0 t.1 in
      let u = both_true _ (we_fits ports t.0) r.1 in
      let v = both_true _ (wdata_fits ports r.0 t.0) u.0 in
      let w = both_true _ (addr_fits ports t.0) v.0 in
      let label : addr_of t.0.name ≡ Some l = ap addr_of name ∙ addr_label l some in
      let out : (is_out t.0 64 && has_all_five ports l) ≡ true = subst (λ (o : Option Name). option_map_or (λ x. is_out t.0 64 && has_all_five ports x) o true ≡ true) label w.1 in
      let wide : (t.0.width == 64) ≡ true = (both_true (not (is_input t.0.direction)) (t.0.width == 64) (both_true (is_out t.0 64) (has_all_five ports l) out).0).1 in
      ap (λ (d : Declaration). d.bits) (port_stands ports (items_declared m.items) (m_addr l) read) ∙ ap (λ (d : Declaration). d.bits) (sym t.2) ∙ eqb-true t.0.width 64 wide

module _ (ms : List ModuleTree) (top : ModuleTree) (f : Flat) (flat : IsFlat ms top f) (l : Name) (some : 0 < length l) (five : has_all_five (map port_declared top.ports) l ≡ true) where
  top_here : Has ms top
  top_here = (top_tree ms flat.top_place flat.design top flat.top_at).has

  is_the_top : is_top ms top.name ≡ true
  is_the_top = (top_tree ms flat.top_place flat.design top flat.top_at).is_top

  pub answer_told : (pairs memories : List (Option Pair)) (labels : List Port) (i : ℕ) → labels ≡ (shape_of top).memories → IsLabelAt labels i l → (q : ℕ × Bool) → places_from 0 (map declaration_name (declared top)) (m_addr l) ≡ Some q
      → (asked : Pair) → get_or pairs q.0 None ≡ Some asked → (t : TapeTree) → IsTape t → (cell memory : ℕ)
      → ((cells : Cells) (ns : List ℕ) → IsSolved t cells ns → number_at ns cell ≡ cell_in cells (number_at ns memory) (number_at ns asked.low))
      → ((cells : Cells) (ns : List ℕ) → IsSolved t cells ns → number_at ns memory ≡ i)
      → HasNumbersOf ms top f memories pairs t ([], m_rdata l) (record { low = cell; high = 0 })
  answer_told pairs memories labels i are at q place asked got t tape cell memory says is cells ns c solved v shows_cells shows =
      let low = top_low ms top f flat in
      let here = top_is ms top f flat in
      let number : HasNumber ms f (get_or f.first_net.items 0 0 + q.0) ([], m_addr l) = numbered ms f 0 low [] refl top here q.0 (m_addr l) (declared_here ms f 0 low [] refl top here (m_addr l) q place) in
      let from : get_or f.first_net.items 0 0 + q.0 ≡ q.0 = let z = flat.numbers.starts in omega arith in
      let value : (c []).net (m_addr l) ≡ pair_value ns asked = shows (get_or f.first_net.items 0 0 + q.0) ([], m_addr l) asked number (ap (λ n. get_or pairs n None) from ∙ got) in
      let wide = asked_wide ms flat.design.outside top top_here is_the_top l some five in
      let read = asked_read ms flat.design.outside top top_here is_the_top l some five in
      let fits : (c []).net (m_addr l) < 2 ^ 64 = subst (λ w. (c []).net (m_addr l) < 2 ^ w) wide ((v.fits [] top refl).nets (m_addr l) read (memory_clock l)) in
      let small : pair_value ns asked < 2 ^ 64 = subst (λ n. n < 2 ^ 64) value fits in
      let stands : slice_get (shape_of top).memories i ≡ Some at.port = ap (λ ls. slice_get ls i) (sym are) ∙ at.got in
      subst (λ z. (c []).net (m_rdata z) ≡ cell_in cells i ((c []).net (m_addr z))) at.is (shows_cells.outside i at.port stands)
      ∙ ap (λ n. cell_in cells i n) (value ∙ sym (low_is ns asked small))
      ∙ ap (λ k. cell_in cells k (number_at ns asked.low)) (sym (is cells ns solved))
      ∙ sym (single t tape cells ns solved cell ∙ says cells ns solved)

  -- the label stands among those of the memories outside
  pub label_there : (labels : List Port) → labels ≡ (shape_of top).memories → (i : ℕ) × IsLabelAt labels i l
  label_there labels are =
      let ports : List Declaration = map port_declared top.ports in
      let read : net_kind_is_read (net_kind_of ports (m_ack l)) ≡ true = (five_of ms flat.design.outside top top_here l five).0 in
      let f = found_name ports (m_ack l) net_kind_is_read refl read in
      let t = of_map port_declared top.ports (find_name ports (m_ack l)) f.0 in
      let name : t.0.name ≡ m_ack l = ap (λ (d : Declaration). d.name) t.2 ∙ f.1 in
      let memory : Port = record { name = l; bits = bits_of (declared top) (m_rdata l) } in
      let has : Has (shape_of top).memories memory = has_flat (λ (p : PortDecl). memory_label (declared top) (ack_of p.name)) top.ports t.0 memory t.1
      (subst (λ o. Has (memory_label (declared top) o) memory) (sym (ap ack_of name ∙ ack_of_label l some)) (inl refl)) in
      let g = got_has (shape_of top).memories memory has in
      (g.0, record { port = memory; got = ap (λ z. slice_get z g.0) are ∙ g.2; is = refl })

  -- the top declares the net at which the memory is asked
  pub asked_there : places_from 0 (map declaration_name (declared top)) (m_addr l) ≡ None → ⊥
  asked_there e =
      let unknown_kind : net_kind_of (declared top) (m_addr l) ≡ Unknown = ap (λ (d : Declaration). d.net_kind) (missing 0 (declared top) (m_addr l) e).here in
      let read : net_kind_is_read (net_kind_of (declared top) (m_addr l)) ≡ true = asked_read ms flat.design.outside top top_here is_the_top l some five in
      true_not_false (sym read ∙ ap net_kind_is_read unknown_kind)

  -- its place is its number
  pub asked_number : (q : ℕ × Bool) → places_from 0 (map declaration_name (declared top)) (m_addr l) ≡ Some q → HasNumber ms f q.0 ([], m_addr l)
  asked_number q place =
      let low = top_low ms top f flat in
      let here = top_is ms top f flat in
      let from : get_or f.first_net.items 0 0 + q.0 ≡ q.0 = let z = flat.numbers.starts in omega arith in
      subst (λ k. HasNumber ms f k ([], m_addr l)) from (numbered ms f 0 low [] refl top here q.0 (m_addr l) (declared_here ms f 0 low [] refl top here (m_addr l) q place))

  -- what the memory answers has its number from there
  pub asked_part : net_kind_of (declared top) (m_rdata l) ≡ Input → Has (parts ms top true ([], m_rdata l)) ([], m_addr l)
  asked_part input =
      let ports : List Declaration = map port_declared top.ports in
      let port : has_port ports (m_addr l) ≡ true = (five_of ms flat.design.outside top top_here l five).1 in
      let asked : Has (asked_port ports (m_rdata l)) (m_addr l) =
      subst (λ b. Has (cond b (filter (has_port ports) (address_of (m_rdata l))) []) (m_addr l)) (sym (input_port_is top (m_rdata l) (ap net_kind_is_input input)))
      (subst (λ o. Has (filter (has_port ports) (read_of o)) (m_addr l)) (sym (rdata_of_label l some))
      (subst (λ b. Has (cond b (m_addr l ∷ []) []) (m_addr l)) (sym port) (inl refl))) in
      part_answer ms top [] (m_rdata l) ([], m_addr l) (has_map (λ (y : Name). ([], y)) (asked_port ports (m_rdata l)) (m_addr l) asked)

  pub asked_placed : (pairs : List (Option Pair)) (x : Name) → x ≡ m_rdata l → net_kind_of (declared top) x ≡ Input → PartsPlaced ms top f pairs ([], x) → (number : ℕ) → HasNumber ms f number ([], m_addr l) → IsSome (get_or pairs number None)
  asked_placed pairs x is input placed number h =
      subst (λ y. PartsPlaced ms top f pairs ([], y)) is placed number ([], m_addr l) h (asked_part (subst (λ y. net_kind_of (declared top) y ≡ Input) is input))
