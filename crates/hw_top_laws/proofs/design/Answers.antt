-- Behind the port that asks a memory for a place stands the port at which it answers.
use Rattle.std.proofs.Common.{◌≡◌, ℕ, Bool, true, false, List, [], ◌∷◌, ◌++◌, length, map, Option, Some, None, inl, inr, refl, sym, ap, subst, ◌∙◌, arith}
use Rattle.std.specs.Prelude.{codes, slice_get}
use Rattle.std.specs.List.{flat_map}
use Rattle.tapa_base.specs.Kinds.{bits_of}
use Rattle.tapa_syntax.specs.declared.program.Memory.{Memory}
use Rattle.tapa_syntax.specs.declared.program.Program.{Program}
use Rattle.task_fsm.specs.declared.machine.Fsm.{Fsm}
use Rattle.vlog_tree.specs.declared.tree.PortDecl.{PortDecl}
use Rattle.vlog_tree.specs.declared.table.Declaration.{Declaration}
use Rattle.vlog_tree.specs.declared.table.NetKind.TheVariants.{Input as InputNet, Output as OutputNet}
use Rattle.tapa_base.specs.Lists.{Has}
use Rattle.vlog_tree.specs.Labels.{rst, done, scalar, m_ack, m_rdata, m_addr, m_wdata, m_we, rdata_of, read_of, address_of}
use Rattle.vlog_tree.specs.Loops.{asked_port, answer_edges, memory_edges}
use Rattle.vlog_tree.specs.Table.{Name, clk, port_declared}
use Rattle.tapa_base.proofs.Lists.{of_flat, of_map}
use Rattle.vlog_module_laws.proofs.Labelled.{labels}
use Rattle.vlog_run_laws.proofs.runs.Settled.{asked_address}
use Rattle.hw_build.specs.Elements.{Input, Outlet, element_ports}
use Rattle.hw_build.specs.Order.{StandsBefore}
use Rattle.hw_lines.specs.Texts.{task_name}
use Rattle.hw_top_lines.specs.Legal.{IsReady}
use Rattle.hw_top_lines.specs.Texts.{memory_ports, ports, wires, doneness, instances, top_elements, top_tree}
use Rattle.hw_top_laws.specs.modules.Lower.{lower_modules, KeepPromises}
use Rattle.hw_top_laws.proofs.names.Made.{sort, clk_sort, rst_sort, scalar_sort, addr_names, wdata_names, we_names, ack_names, rdata_names, done_sort, same_between}
use Rattle.hw_top_laws.proofs.form.Whole.{tops_are_fitting}
use Rattle.hw_top_laws.specs.design.Order.{TopsKeepAnswers}
use Rattle.hw_top_laws.proofs.design.Places.{IsBefore, in_left, in_right, in_each, before_order}
use Rattle.hw_top_laws.proofs.design.Ports.{IsTopPort, AtClock, AtReset, AtDone, AtScalar, AtMemory, port_is}
use Rattle.tapa_base.proofs.Got.{got_low as some_index}
use Rattle.hw_top_laws.proofs.form.Standing.{scalars, memories}

same_rdata : (l m : Name) → m_rdata l ≡ m_rdata m → l ≡ m
unfolding m_rdata
same_rdata l m e = same_between (codes "m_") (codes "_rdata") l m e

-- a port with the name of an answer
abbrev IsAnswer : PortDecl → Type 0
IsAnswer p = sort p.name ≡ 7

other : (p : PortDecl) (x : Name) (k : ℕ) → x ≡ p.name → sort x ≡ k → (k ≡ 7 → ⊥) → IsAnswer p → ⊥
other p x k e s differ a = differ (sym s ∙ ap sort e ∙ a)

module _ (program : Program) (added : List ℕ) where
  -- a memory that answers at this port
  pub record HasAnswer (p : PortDecl) : Type 0 where
    pub number : ℕ
    pub memory : Memory
    pub got : slice_get program.memories.items number ≡ Some memory
    pub name : m_rdata memory.name ≡ p.name

  in_tree : (p : PortDecl) → Has (top_tree program added).ports p → IsAnswer p → HasAnswer p
  in_tree p h a = by (port_is program added p h) where
    memory : (m : ℕ) (r : Memory) → slice_get program.memories.items m ≡ Some r → Has (flat_map element_ports (memory_ports (Some r))) p → HasAnswer p
    memory m r g (inl q) = absurd (other p (m_addr r.name) 3 (ap (λ (z : PortDecl). z.name) q) (addr_names.sorts r.name) (λ t. omega arith) a)
    memory m r g (inr (inl q)) = absurd (other p (m_wdata r.name) 4 (ap (λ (z : PortDecl). z.name) q) (wdata_names.sorts r.name) (λ t. omega arith) a)
    memory m r g (inr (inr (inl q))) = absurd (other p (m_we r.name) 5 (ap (λ (z : PortDecl). z.name) q) (we_names.sorts r.name) (λ t. omega arith) a)
    memory m r g (inr (inr (inr (inl q)))) = absurd (other p (m_ack r.name) 6 (ap (λ (z : PortDecl). z.name) q) (ack_names.sorts r.name) (λ t. omega arith) a)
    memory m r g (inr (inr (inr (inr (inl q))))) = record { number = m; memory = r; got = g; name = ap (λ (z : PortDecl). z.name) q }
    memory m r g (inr (inr (inr (inr (inr n))))) = absurd n

    by : IsTopPort program added p → HasAnswer p
    by (AtClock q) = absurd (other p clk 0 (ap (λ (z : PortDecl). z.name) q) clk_sort (λ t. omega arith) a)
    by (AtReset q) = absurd (other p rst 1 (ap (λ (z : PortDecl). z.name) q) rst_sort (λ t. omega arith) a)
    by (AtDone q) = absurd (other p done 17 (ap (λ (z : PortDecl). z.name) q) done_sort (λ t. omega arith) a)
    by (AtScalar k c g q) = absurd (other p (scalar c.name) 2 (ap (λ (z : PortDecl). z.name) q) (scalar_sort c.name) (λ t. omega arith) a)
    by (AtMemory m r g k) = memory m r g k

  -- a memory's ports stand in this order
  asked_before : (m : ℕ) (r : Memory) → slice_get program.memories.items m ≡ Some r → IsBefore (top_elements program added) (Outlet 64 (m_addr r.name)) (Input (bits_of r.kind) (m_rdata r.name))
  asked_before m r g =
      let a = Outlet 64 (m_addr r.name) in
      let b = Outlet (bits_of r.kind) (m_wdata r.name) in
      let c = Outlet 1 (m_we r.name) in
      let d = Input 1 (m_ack r.name) in
      let e = Input (bits_of r.kind) (m_rdata r.name) in
      let own : IsBefore (memory_ports (Some r)) a e = record { front = a ∷ []; back = b ∷ c ∷ d ∷ e ∷ []; is = refl; first = inl refl; second = inr (inr (inr (inl refl))) } in
      let among : IsBefore (memories program) a e =
      in_each (λ m. memory_ports (slice_get program.memories.items m)) (length program.memories.items) m a e (some_index program.memories.items m r g) (subst (λ o. IsBefore (memory_ports o) a e) (sym g) own) in
      in_left (ports program ++ wires program ++ doneness program) (instances program added) a e
      (in_left (ports program ++ wires program) (doneness program) a e (in_left (ports program) (wires program) a e (in_right (scalars program) (memories program) a e among)))

module _ (program : Program) (machines : List Fsm) (added : List ℕ) (ready : IsReady program machines added) (kept : KeepPromises program machines) where
  answer_order : (p : PortDecl) → Has (top_tree program added).ports p → (l : Name) → p.name ≡ m_rdata l → StandsBefore (top_elements program added) (m_addr l) p.name
  answer_order p h l e =
      let t = in_tree program added p h (ap sort e ∙ rdata_names.sorts l) in
      let r = t.memory in
      let own : r.name ≡ l = same_rdata r.name l (t.name ∙ e) in
      let c : Declaration = record { name = m_addr r.name; net_kind = OutputNet; bits = 64; cells = 0 } in
      let d : Declaration = record { name = m_rdata r.name; net_kind = InputNet; bits = bits_of r.kind; cells = 0 } in
      let before : StandsBefore (top_elements program added) (m_addr r.name) (m_rdata r.name) =
      before_order (lower_modules program machines added) (top_elements program added) (tops_are_fitting program machines added ready kept).names (Outlet 64 (m_addr r.name)) (Input (bits_of r.kind) (m_rdata r.name)) c d
      (asked_before program added t.number r t.got) refl refl in
      subst (λ z. StandsBefore (top_elements program added) (m_addr l) z) t.name (subst (λ z. StandsBefore (top_elements program added) (m_addr z) (m_rdata r.name)) own before)

  of_label : (p : PortDecl) → Has (top_tree program added).ports p → (o : Option Name) → rdata_of p.name ≡ o → (y : Name) → Has (read_of o) y → StandsBefore (top_elements program added) y p.name
  of_label p h None e y k = absurd k
  of_label p h (Some l) e y (inl s) = subst (λ z. StandsBefore (top_elements program added) z p.name) s (answer_order p h l (labels.rdatas.back p.name l e).0)
  of_label p h (Some l) e y (inr n) = absurd n

  answer_of : (b : Bool) (x y : Name) → Has (memory_edges b (map port_declared (top_tree program added).ports)) (x, y) → StandsBefore (top_elements program added) y x
  answer_of false x y h = absurd h
  answer_of true x y h =
      let ps = (top_tree program added).ports in
      let ds = map port_declared ps in
      let t = of_flat (answer_edges ds) ds (x, y) h in
      let p = of_map port_declared ps t.0 t.1 in
      let n : t.0.name ≡ p.0.name = ap (λ (d : Declaration). d.name) (sym p.2) in
      let a = of_map (λ z. (t.0.name, z)) (asked_port ds t.0.name) (x, y) t.2 in
      let asked : Has (address_of p.0.name) a.0 = subst (λ z. Has (address_of z) a.0) n (asked_address ds t.0.name a.0 a.1) in
      let before : StandsBefore (top_elements program added) a.0 p.0.name = of_label p.0 p.1 (rdata_of p.0.name) refl a.0 asked in
      subst (λ z. StandsBefore (top_elements program added) z x) (ap (λ (q : Name × Name). q.1) a.2)
      (subst (λ z. StandsBefore (top_elements program added) a.0 z) (sym n ∙ ap (λ (q : Name × Name). q.0) a.2) before)

pub answers : TopsKeepAnswers
answers program machines added ready kept is_top x y h = answer_of program machines added ready kept (is_top (task_name program.top)) x y h
