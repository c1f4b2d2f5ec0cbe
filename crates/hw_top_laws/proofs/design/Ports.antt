-- The ports of the top: the clock, the reset, scalars, memories, and the one that says when all is done.
use Rattle.std.proofs.Common.{◌≡◌, ℕ, ◌-◌, List, [], ◌∷◌, ◌++◌, length, Some, inl, inr, refl, sym, subst, ⊎_elim}
use Rattle.std.specs.Prelude.{slice_get}
use Rattle.std.specs.List.{flat_map}
use Rattle.tapa_base.specs.Kinds.{bits_of}
use Rattle.tapa_syntax.specs.declared.program.Memory.{Memory}
use Rattle.tapa_syntax.specs.declared.program.Program.{Program}
use Rattle.tapa_syntax.specs.declared.program.Scalar.{Scalar}
use Rattle.vlog_tree.specs.declared.tree.PortDecl.{PortDecl}
use Rattle.tapa_base.specs.Lists.{Has}
use Rattle.vlog_tree.specs.Labels.{rst, done, scalar}
use Rattle.vlog_tree.specs.Table.{clk}
use Rattle.tapa_base.proofs.Lists.{has_left, has_right, has_split, has_flat, of_flat}
use Rattle.hw_build.specs.Elements.{Element, Output, element_ports, empty}
use Rattle.hw_build.specs.Trees.{tree_nodes}
use Rattle.hw_build.proofs.Tables.{ports_of_all}
use Rattle.hw_build.specs.Scope.{each}
use Rattle.hw_build.proofs.Parts.{has_each}
use Rattle.hw_lines.specs.Texts.{task_name}
use Rattle.hw_top_laws.specs.joins.Joins.{input_port, output_port}
use Rattle.hw_top_lines.specs.Names.{waits}
use Rattle.hw_top_lines.specs.Texts.{scalar_port, memory_ports, ports, wires, waiting, none_waits, doneness, instances, top_elements, top_tree}
use Rattle.hw_top_laws.proofs.form.PartByPart.{ports_by, done_by, top_by}
use Rattle.std.proofs.lemmas.Grind.{flat_map-append}
use Rattle.hw_top_laws.proofs.form.Drives.{wires_none, waits_none, instances_none}
use Rattle.tapa_base.proofs.Got.{got_low as some_index}
use Rattle.hw_top_laws.proofs.form.Standing.{scalars, memories}

module _ (program : Program) (added : List ℕ) where
  abbrev top : List Element
  top = top_elements program added

  abbrev pub whole : List PortDecl
  whole = (top_tree program added).ports

  pub data IsTopPort (p : PortDecl) : Type 0 where
    AtClock : input_port 1 clk ≡ p → IsTopPort p
    AtReset : input_port 1 rst ≡ p → IsTopPort p
    AtDone : output_port 1 done ≡ p → IsTopPort p
    AtScalar : (k : ℕ) (c : Scalar) → slice_get program.scalars.items k ≡ Some c → input_port (bits_of c.kind) (scalar c.name) ≡ p → IsTopPort p
    AtMemory : (m : ℕ) (r : Memory) → slice_get program.memories.items m ≡ Some r → Has (flat_map element_ports (memory_ports (Some r))) p → IsTopPort p

  -- ---- each port is one of these

  abbrev AreTopPorts : List Element → Type 0
  AreTopPorts es = (p : PortDecl) → Has (flat_map element_ports es) p → IsTopPort p

  both_ports : (xs ys : List Element) → AreTopPorts xs → AreTopPorts ys → AreTopPorts (xs ++ ys)
  both_ports xs ys f g p h =
      ⊎_elim (f p) (g p) (has_split (flat_map element_ports xs) (flat_map element_ports ys) p (subst (λ (l : List PortDecl). Has l p) (flat_map-append element_ports xs ys) h))

  no_ports : (es : List Element) → flat_map element_ports es ≡ [] → AreTopPorts es
  no_ports es none p h = absurd (subst (λ (l : List PortDecl). Has l p) none h)

  all_ports : AreTopPorts top
  all_ports =
      let n = length program.instances.items in
      let none : AreTopPorts [] = λ p h. absurd h in
      top_by AreTopPorts none both_ports program added (ports_by AreTopPorts none both_ports program scalar (λ m r g p h. AtMemory m r g h))
      (no_ports (wires program) (wires_none element_ports (λ w x v. refl) program (λ w x. refl)))
      (done_by AreTopPorts none both_ports program (no_ports (each (waiting program) n ++ tree_nodes 1 waits n (n - 1)) (waits_none element_ports (λ w x v. refl) program)) last)
      (no_ports (instances program added) (instances_none element_ports (λ c i ls. refl) program added)) where
        scalar : (k : ℕ) (c : Scalar) → slice_get program.scalars.items k ≡ Some c → AreTopPorts (scalar_port (Some c))
        scalar k c g p (inl q) = AtScalar k c g q
        scalar k c g p (inr n) = absurd n

        last : AreTopPorts (Output 1 done (none_waits (length program.instances.items)) ∷ [])
        last p (inl q) = AtDone q
        last p (inr n) = absurd n

  pub port_is : (p : PortDecl) → Has whole p → IsTopPort p
  port_is p h =
      let first = (empty (task_name program.top)).ports in
      ⊎_elim (λ l. early l) (λ r. all_ports p r)
      (has_split first (flat_map element_ports top) p (subst (λ (l : List PortDecl). Has l p) (ports_of_all top (empty (task_name program.top))) h)) where
        early : Has (empty (task_name program.top)).ports p → IsTopPort p
        early (inl q) = AtClock q
        early (inr (inl q)) = AtReset q
        early (inr (inr n)) = absurd n

  -- ---- and each of these is a port

  pub port_there : (p : PortDecl) → Has ((empty (task_name program.top)).ports ++ flat_map element_ports top) p → Has whole p
  port_there p h = subst (λ (l : List PortDecl). Has l p) (sym (ports_of_all top (empty (task_name program.top)))) h

  pub clock_there : Has whole (input_port 1 clk)
  clock_there = port_there (input_port 1 clk) (inl refl)

  pub reset_there : Has whole (input_port 1 rst)
  reset_there = port_there (input_port 1 rst) (inr (inl refl))

  element_port : (e : Element) (p : PortDecl) → Has (ports program ++ wires program ++ doneness program) e → Has (element_ports e) p → Has whole p
  element_port e p h j =
      port_there p
      (has_right (empty (task_name program.top)).ports (flat_map element_ports top) p (has_flat element_ports top e p (has_left (ports program ++ wires program ++ doneness program) (instances program added) e h) j))

  pub done_there : Has whole (output_port 1 done)
  done_there =
      let n = length program.instances.items in
      let e = Output 1 done (none_waits n) in
      element_port e (output_port 1 done)
      (has_right (ports program ++ wires program) (doneness program) e (has_right (each (waiting program) n ++ tree_nodes 1 waits n (n - 1)) (e ∷ []) e (inl refl))) (inl refl)

  pub memory_there : (m : ℕ) (r : Memory) → slice_get program.memories.items m ≡ Some r → (p : PortDecl) → Has (flat_map element_ports (memory_ports (Some r))) p → Has whole p
  memory_there m r g p h =
      let t = of_flat element_ports (memory_ports (Some r)) p h in
      let e = t.0 in
      element_port e p
      (has_left (ports program ++ wires program) (doneness program) e
      (has_left (ports program) (wires program) e
      (has_right (scalars program) (memories program) e
      (has_each (λ m. memory_ports (slice_get program.memories.items m)) (length program.memories.items) m e (some_index program.memories.items m r g) (subst (λ o. Has (memory_ports o) e) (sym g) t.1))))) t.2
