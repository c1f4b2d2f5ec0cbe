-- In a design, at a moment that leaves out nothing, each net has its number from a source all of whose nets have theirs.
use Rattle.std.proofs.Common.{◌≡◌, ℕ, ◌<◌, ◌≤◌, ◌^◌, true, false, cond, List, [], ◌∷◌, Option, Some, None, inl, inr, refl, sym, ap, subst, ◌∙◌, map, arith}
use Rattle.std.specs.Prelude.{nat_le, is_some, slice_get}
use Rattle.std.specs.List.{AllByRecursion}
use Rattle.std.specs.Option.{option_map}
use Rattle.std.proofs.Math.Pow.{pow_mono}
use Rattle.std.proofs.lemmas.Bool.Decides.{nat_tests}
use Rattle.vlog_tree.specs.declared.tree.Value.{Value}
use Rattle.vlog_tree.specs.declared.tree.Value.TheVariants.{Plain, Invert, Binary, Choose, Concat, Repeat, Cell}
use Rattle.vlog_tree.specs.declared.tree.Item.TheVariants.{Assign, Instance}
use Rattle.vlog_tree.specs.declared.table.Declaration.{Declaration}
use Rattle.vlog_tree.specs.declared.table.NetKind.{NetKind}
use Rattle.vlog_tree.specs.declared.table.NetKind.TheVariants.{Unknown, Input, Output, WireNet, Register, MemoryArray, ChildInstance}
use Rattle.vlog_tree.specs.Form.{ModuleTree}
use Rattle.vlog_tree.specs.Grounded.{IsGrounded, grounded}
use Rattle.tapa_base.specs.Lists.{Has}
use Rattle.vlog_tree.specs.Refused.{IsDesign}
use Rattle.vlog_tree.specs.Table.{Name, is_clk, declared, port_declared, items_declared, net_kind_of, bits_of, net_kind_is_read, net_kind_is_driven, net_kind_is_input, ports_of}
use Rattle.vlog_tree.specs.Cycle.{Cycle, Path, and_then, driven, module_at}
use Rattle.vlog_tree.specs.Environment.{Environment, FitsShape, RunsIn, shape_of}
use Rattle.vlog_tree.specs.V2.{all_connected}
use Rattle.vlog_tree.specs.Loops.{asked_port, value_nets, item_instances}
use Rattle.vlog_tree.specs.Flattened.{FlatNet, parts}
use Rattle.tapa_base.proofs.Lists.{has_flat, of_flat, has_map, of_map}
use Rattle.vlog_run_laws.proofs.runs.Sound.{assign_reads, assign_cell, connection_port, connection_net, connection_clock, is_known_module, output_is}
use Rattle.vlog_run_laws.proofs.runs.Sizes.{memory_item, register_item}
use Rattle.vlog_run_laws.proofs.runs.Alone.{child_is, instance_single, module_there, module_is, IsNamed}
use Rattle.vlog_run_laws.proofs.runs.Alike.{memory_is}
use Rattle.vlog_run_laws.proofs.runs.Settled.{outside, asked_address, module_in, child_at, top_tree, IsTopTree, design_settles}
use Rattle.vlog_run_laws.proofs.runs.Drivers.{Source, value, output, sources, line_sources, source_cases, value_line, output_line, IsDrivenBy, has_source}
use Rattle.vlog_run_laws.proofs.runs.Parts.{part_line, part_outside, part_answer, driver_part, output_part}
use Rattle.vlog_run_laws.proofs.runs.Cycles.{port_stands, port_net_kind_declared, outside_has, connected_once}
use Rattle.vlog_run_laws.proofs.runs.Solved.{Around, module_around, child_item}
use Rattle.vlog_run_laws.proofs.runs.TopPorts.{input_port, clock_joined, asked_declared}
use Rattle.vlog_run_laws.proofs.widths.Ruled.{net_width}
use Rattle.vlog_run_laws.proofs.widths.Fitting.{run_fits}
use Rattle.vlog_values.specs.declared.numbers.NetNumber.{NetNumber}
use Rattle.vlog_values.specs.Numbers.{first_net, cycle_of, sizes_of, fitting}
use Rattle.vlog_values.proofs.Fits.{fits}
use Rattle.vlog_values.specs.declared.moment.Held.{Held}
use Rattle.vlog_values.specs.declared.moment.Moment.{Moment}
use Rattle.vlog_ref_cycle.specs.Sources.{RuleTree, SourceTree, held_at, assigned, output_of, joined_to, net_read, has_cells, given_number, same_number, outer_source, output_source, line_source, register_source, source_of}
use Rattle.vlog_ref_cycle.specs.Numbers.{by_rule, net_within}
use Rattle.vlog_ref_cycle.specs.Moments.{MemoryIs, HeldIs, IsAt}
use Rattle.vlog_ref_cycle.proofs.Sound.{held_found, driver_found, joined_found, IsOutput, numbers_read}
use Rattle.vlog_ref_cycle.proofs.Within.{number_is}
use Rattle.vlog_ref_start.specs.Whole.{HoldsAll, IsWhole}
use Rattle.vlog_ref_start.proofs.Deeper.{IsFound, IsGiven, all_found, found_by, number_answered, same_answered}
use Rattle.vlog_ref_start.proofs.Searched.{assigned_there, output_there, output_found, joined_there}
use Rattle.vlog_ref_start.proofs.OutsideNets.{input_given}
use Rattle.vlog_ref_start.proofs.Driven.{drives, driver_number}
use Rattle.tapa_base.proofs.Tests.{true_not_false}
use Rattle.tapa_base.proofs.Got.{all_at}

le_test : (w : ℕ) → w ≤ 128 → nat_le w 128 ≡ true
le_test w h = grind (arith, nat_tests)

below_both : (v a b : ℕ) → v < a → a ≤ b → v < b
below_both v a b h k = omega arith

rule_gives : (w v : ℕ) → w ≤ 128 → v < 2 ^ w → cond (nat_le w 128) (fitting v) None ≡ Some v
rule_gives w v h low = ap (λ b. cond b (fitting v) None) (le_test w h) ∙ sym (fits v (below_both v (2 ^ w) (2 ^ 128) low (pow_mono h)))

module _ (ms : List ModuleTree) (place : ℕ) (root : ModuleTree) (d : IsDesign ms place) (at_place : slice_get ms place ≡ Some root) (env : Environment) (env_fits : FitsShape env (shape_of root)) (nets : ℕ → Path → Cycle) (r : RunsIn ms root env nets)
    (now : Moment) (is : IsAt ms root env nets now) (whole : IsWhole ms root now) where
  tree : IsTopTree ms root
  tree = top_tree ms place d root at_place

  abbrev n : ℕ
  n = now.cycle

  -- a net of the flattened design that lines may read is found
  abbrev Finds : FlatNet → Type 0
  Finds b = (m : ModuleTree) → module_at ms root b.0 ≡ Some m → net_kind_is_read (net_kind_of (declared m) b.1) ≡ true → is_clk b.1 ≡ false → IsFound ms root now b

  abbrev FindsParts : Path → Name → Type 0
  FindsParts path x = (b : FlatNet) → Has (parts ms root true (path, x)) b → Finds b

  -- an input of an instance is joined to a net around it
  module _ (i : Name) (path : Path) (m : ModuleTree) (at : module_at ms root (i ∷ path) ≡ Some m) (x : Name) (net_kind : net_kind_of (declared m) x ≡ Input) (no_clock : is_clk x ≡ false) (below : FindsParts (i ∷ path) x)
      (a : Around ms root i path m) where
    in_around : Has ms a.tree
    in_around = module_in ms root tree.has path a.tree a.at

    is_joined : joined_to a.tree.items i x ≡ None → ⊥
    is_joined =
        let t = child_item a.tree.items i a.kn a.child in
        let named : IsNamed ms a.kn m = module_is ms a.kn m a.named in
        let p = input_port m x net_kind in
        let connections = subst (λ ps. all_connected (map port_declared ps) t.0 ≡ true) named.ports (instance_single ms d.sound.names a.tree in_around a.kn i t.0 t.1).1 in
        let one = connected_once (map port_declared m.ports) t.0 connections (port_declared p.0) (has_map port_declared m.ports p.0 p.1) in
        subst (λ z. joined_to a.tree.items i z ≡ None → ⊥) p.2 (joined_there a.tree.items a.kn i t.0 t.1 p.0.name one)

    joined_net : (z : Name) → IsOutput a.tree.items z (i, x) → IsFound ms root now (path, z)
    joined_net z q =
        let named : Some a.kn ≡ Some q.module_name = sym a.child ∙ child_is ms d.sound.names a.tree in_around q.module_name i q.connections q.has in
        let same : a.kn ≡ q.module_name = cc named in
        let ports : ports_of ms q.module_name ≡ m.ports = ap (λ k. ports_of ms k) (sym same) ∙ (module_is ms a.kn m a.named).ports in
        let read : net_kind_is_read (net_kind_of (map port_declared m.ports) x) ≡ true =
        subst (λ y. net_kind_is_read (net_kind_of (map port_declared m.ports) y) ≡ true) q.port
        (subst (λ ps. net_kind_is_read (net_kind_of (map port_declared ps) q.connection.port) ≡ true) ports (connection_port ms d.sound.names a.tree in_around q.module_name i q.connections q.has q.connection q.connected)) in
        let input : net_kind_of (map port_declared m.ports) x ≡ Input = sym (ap (λ (d : Declaration). d.net_kind) (port_stands (map port_declared m.ports) (items_declared m.items) x read)) ∙ net_kind in
        let given : net_kind_is_input (net_kind_of (map port_declared (ports_of ms q.module_name)) q.connection.port) ≡ true =
        subst (λ ps. net_kind_is_input (net_kind_of (map port_declared ps) q.connection.port) ≡ true) (sym ports) (subst (λ y. net_kind_is_input (net_kind_of (map port_declared m.ports) y) ≡ true) (sym q.port) (ap net_kind_is_input input)) in
        let part : Has (outside ms root (i ∷ path, x)) (path, q.connection.net) = subst (λ y. Has (outside ms root (i ∷ path, y)) (path, q.connection.net)) q.port (outside_has ms root path a.tree a.at q.module_name i q.connections q.has q.connection q.connected given) in
        subst (λ y. IsFound ms root now (path, y)) q.net
        (below (path, q.connection.net) (part_outside ms root (i ∷ path) x (path, q.connection.net) part) a.tree a.at
        (connection_net ms d.sound.names a.tree in_around q.module_name i q.connections q.has q.connection q.connected) (connection_clock ms d.sound.names a.tree in_around q.module_name i q.connections q.has q.connection q.connected given (ap is_clk q.port ∙ no_clock)))

    joined_given : (o : Option Name) → joined_to a.tree.items i x ≡ o → IsGiven ms root now (outer_source ms root now (i ∷ path) x)
    joined_given None e = absurd (is_joined e)
    joined_given (Some z) e = (
      same_number path z,
      ap (λ o. and_then o (λ (m : ModuleTree). option_map (same_number path) (joined_to m.items i x))) a.at ∙ ap (λ o. option_map (same_number path) o) e,
      same_answered ms root now path z (joined_net z (joined_found a.tree.items i x z e)),
    )

  outer_given : (path : Path) (m : ModuleTree) → module_at ms root path ≡ Some m → (x : Name) → net_kind_of (declared m) x ≡ Input → is_clk x ≡ false → FindsParts path x → IsGiven ms root now (outer_source ms root now path x)
  outer_given [] m at x net_kind no_clock below =
      let same : root ≡ m = cc at in
      let input : net_kind_of (declared root) x ≡ Input = subst (λ (k : ModuleTree). net_kind_of (declared k) x ≡ Input) (sym same) net_kind in
      input_given ms d.sound.names d.outside root tree.has tree.is_top now whole x input no_clock
      (λ b h.
      let ports = map port_declared root.ports in
      let t = of_map (λ (y : Name). ([], y)) (asked_port ports x) b h in
      let q = asked_declared ms d.outside root tree.has tree.is_top x input t.0 (asked_address ports x t.0 t.1) in
      subst (λ (b : FlatNet). IsFound ms root now b) t.2
      (below ([], t.0) (part_answer ms root [] x ([], t.0) (has_map (λ (y : Name). ([], y)) (asked_port ports x) t.0 t.1)) root refl q.0 q.1))
  outer_given (i ∷ path) m at x net_kind no_clock below = let a = module_around ms root i path m at in joined_given i path m at x net_kind no_clock below a (joined_to a.tree.items i x) refl

  module _ (path : Path) (m : ModuleTree) (at : module_at ms root path ≡ Some m) (h : Held) (at_held : held_at now.held.items path ≡ Some h) (all : HoldsAll m h) where
    here : Has ms m
    here = module_in ms root tree.has path m at

    memories_are : AllByRecursion (MemoryIs m.items (nets n path)) h.memories.items
    memories_are =
        let q = held_found now.held.items path h at_held in
        let i : HeldIs ms root (nets n) h = all_at (HeldIs ms root (nets n)) now.held.items h is.held q.0 in
        let e : Some i.tree ≡ Some m = sym i.at ∙ ap (λ p. module_at ms root p) q.1 ∙ at in
        let same : i.tree ≡ m = cc e in
        subst (λ p. AllByRecursion (MemoryIs m.items (nets n p)) h.memories.items) q.1 (subst (λ (t : ModuleTree). AllByRecursion (MemoryIs t.items (nets n h.path.items)) h.memories.items) same i.memories)

    cells_there : (x : Name) (e : Value) → Has m.items (Assign x e) → has_cells h.memories.items e ≡ true
    cells_there x (Cell k y) has = let t = memory_item m k (memory_is _ (assign_cell ms d.sound.names m here x k y has)) in all.memories t.0 k t.1 t.2
    cells_there x (Plain a) has = refl
    cells_there x (Invert a) has = refl
    cells_there x (Binary a op b) has = refl
    cells_there x (Choose t a b) has = refl
    cells_there x (Concat atoms) has = refl
    cells_there x (Repeat k a) has = refl

    module _ (x : Name) (read : net_kind_is_read (net_kind_of (declared m) x) ≡ true) (no_clock : is_clk x ≡ false) (below : FindsParts path x) where
      abbrev rest : Option SourceTree
      rest = outer_source ms root now path x

      driver_given : (e : Value) → Has m.items (Assign x e) → (others : Option SourceTree) → IsGiven ms root now (line_source (declared m) path h.memories.items x (Some e) others)
      driver_given e has others =
          let reads : (z : Name) → Has (value_nets e) z → (net_kind_is_read (net_kind_of (declared m) z) ≡ true) × (is_clk z ≡ false) = λ z k. assign_reads ms d.sound.names m here x e has z k in
          let names = map (net_read (declared m)) (value_nets e) in
          let rule = RuleTree.driver (bits_of (declared m) x) e h.memories.items in
          let source : SourceTree = record { path = path; reads = names; rule = rule } in
          let found = all_found ms root now path names (λ q k.
          let t = of_map (net_read (declared m)) (value_nets e) q k in
          subst (λ (w : NetNumber). IsFound ms root now (path, w.name)) t.2 (below (path, t.0) (part_line ms root path x m at (path, t.0) (driver_part ms m path x e has t.0 t.1)) m at (reads t.0 t.1).0 (reads t.0 t.1).1)) in
          let v : ℕ = driven (sizes_of found.1 h.memories.items) (bits_of (declared m) x) (cycle_of found.1 h.memories.items) e in
          let follows = r.runs.each path m at in
          let same : (nets n path).net x ≡ v =
          driver_number m h.memories.items x e read (λ z k. (reads z k).0) (cells_there x e has) (nets n path) follows.sizes follows.ports (follows.lines n) memories_are has found.1
          (numbers_read (nets n path) (net_within ms root now found.0 path) (λ y w k. number_is ms root env nets now r is found.0 path y w k) names found.1 found.2) in
          let low : v < 2 ^ bits_of (declared m) x = subst (λ k. k < 2 ^ bits_of (declared m) x) same (((run_fits ms place root d at_place env env_fits nets r).modules n path m at).nets x read no_clock) in (
            source,
            ap (λ b. cond b (Some source) None) (drives m h.memories.items x e read (λ z k. (reads z k).0) (cells_there x e has)),
            (found.0, v, ap (λ o. and_then o (by_rule rule)) found.2 ∙ rule_gives (bits_of (declared m) x) v (net_width ms d.sound.widths m here x read).1 low),
          )

      output_given : (p : Name × Name) → IsDrivenBy ms m.items x p.0 p.1 → (others : Option SourceTree) → IsGiven ms root now (output_source path (Some p) others)
      output_given p q others =
          let t = module_there ms q.kn (is_known_module ms d.sound.names m here q.kn p.0 q.connections q.has) in
          let named : IsNamed ms q.kn t.0 = module_is ms q.kn t.0 t.1 in
          let net_kind : net_kind_of (map port_declared t.0.ports) q.connection.port ≡ Output =
          subst (λ ps. net_kind_of (map port_declared ps) q.connection.port ≡ Output) named.ports (output_is (ports_of ms q.kn) q.connection.port (connection_port ms d.sound.names m here q.kn p.0 q.connections q.has q.connection q.connected) q.output) in
          let child = child_at ms root d.sound.names m here path at q.kn p.0 t.0 (has_flat item_instances m.items (Instance q.kn p.0 q.connections) (q.kn, p.0) q.has (inl refl)) t.1 in
          let is_read = subst (λ y. net_kind_is_read (net_kind_of (declared t.0) y) ≡ true) q.port (ap net_kind_is_read (port_net_kind_declared t.0 q.connection.port Output refl net_kind)) in
          let clock = sym (ap is_clk q.port) ∙ clock_joined ms d.outside m here q.kn p.0 q.connections q.has q.connection q.connected (ap is_clk q.net ∙ no_clock) in
          (same_number (p.0 ∷ path) p.1, refl, same_answered ms root now (p.0 ∷ path) p.1 (below (p.0 ∷ path, p.1) (part_line ms root path x m at (p.0 ∷ path, p.1) (output_part ms m path x p.0 p.1 q)) t.0 child is_read clock))

      undriven : assigned m.items x ≡ None → output_of ms m.items x ≡ None → net_kind_is_driven (net_kind_of (declared m) x) ≡ true → (net_kind_of (declared m) x ≡ Input → ⊥) → ⊥
      undriven none_assigned none_out driven no_input = elim (source_cases (sources ms m.items) x) [
        | inl none ↦ has_source ms d.sound.drivers m here x driven no_input none
        | inr t ↦ of_source t.0 t.1
      ] where
        of_source : (s : Source) → Has (sources ms m.items) (x, s) → ⊥
        of_source (value e) k = let t = of_flat (line_sources ms) m.items (x, value e) k in assigned_there m.items x e (subst (λ z. Has m.items z) (value_line ms t.0 x e t.2) t.1) none_assigned
        of_source (output i p) k = let t = of_flat (line_sources ms) m.items (x, output i p) k in output_there ms m.items x i p (output_line ms m.items t.0 t.1 x i p t.2) none_out

      by_net_kind : first_net h.nets.items x ≡ None → assigned m.items x ≡ None → output_of ms m.items x ≡ None → (s : NetKind) → net_kind_of (declared m) x ≡ s → net_kind_is_read s ≡ true → IsGiven ms root now rest
      by_net_kind no_register no_line no_output Input e k = outer_given path m at x e no_clock below
      by_net_kind no_register no_line no_output Register e k = let t = register_item m x e in absurd (true_not_false (sym (all.registers t.0 x t.1) ∙ ap (λ o. is_some o) no_register))
      by_net_kind no_register no_line no_output Output e k = absurd (undriven no_line no_output (ap net_kind_is_driven e) (λ i. cc (sym e ∙ i)))
      by_net_kind no_register no_line no_output WireNet e k = absurd (undriven no_line no_output (ap net_kind_is_driven e) (λ i. cc (sym e ∙ i)))
      by_net_kind no_register no_line no_output Unknown e k = cc
      by_net_kind no_register no_line no_output MemoryArray e k = cc
      by_net_kind no_register no_line no_output ChildInstance e k = cc

      by_output : first_net h.nets.items x ≡ None → assigned m.items x ≡ None → (o : Option (Name × Name)) → output_of ms m.items x ≡ o → IsGiven ms root now (output_source path o rest)
      by_output no_register no_line None e = by_net_kind no_register no_line e (net_kind_of (declared m) x) refl read
      by_output no_register no_line (Some p) e = output_given p (output_found ms m.items x p e) rest

      by_line : first_net h.nets.items x ≡ None → (o : Option Value) → assigned m.items x ≡ o → IsGiven ms root now (line_source (declared m) path h.memories.items x o (output_source path (output_of ms m.items x) rest))
      by_line no_register None e = by_output no_register e (output_of ms m.items x) refl
      by_line no_register (Some v) e = driver_given v (driver_found m.items x v e) (output_source path (output_of ms m.items x) rest)

      by_register : (o : Option NetNumber) → first_net h.nets.items x ≡ o
          → IsGiven ms root now (register_source o (line_source (declared m) path h.memories.items x (assigned m.items x) (output_source path (output_of ms m.items x) rest)))
      by_register None e = by_line e (assigned m.items x) refl
      by_register (Some k) e = (given_number k.number, refl, number_answered ms root now k.number)

      source_given : IsGiven ms root now (source_of ms root now path x)
      source_given =
          let from = λ (h : Held) (m : ModuleTree). register_source (first_net h.nets.items x) (line_source (declared m) path h.memories.items x (assigned m.items x) (output_source path (output_of ms m.items x) rest)) in
          let e : source_of ms root now path x ≡ from h m = ap (λ o. and_then o (λ h. and_then (module_at ms root path) (λ m. from h m))) at_held ∙ ap (λ o. and_then o (λ m. from h m)) at in
          subst (λ o. IsGiven ms root now o) (sym e) (by_register (first_net h.nets.items x) refl)

  net_found : (b : FlatNet) → IsGrounded (parts ms root true) b → Finds b
  net_found b (grounded f) m at read no_clock = let w = whole.held b.0 m at in found_by ms root now b.0 b.1 (source_given b.0 m at w.0 w.1 w.2 b.1 read no_clock (λ c h. net_found c (f c h)))

  pub each_found : (path : Path) (m : ModuleTree) (x : Name) → module_at ms root path ≡ Some m → net_kind_is_read (net_kind_of (declared m) x) ≡ true → is_clk x ≡ false → (d : ℕ) × (net_within ms root now d path x ≡ Some ((nets n path).net x))
  each_found path m x at read no_clock =
      let f = net_found (path, x) (design_settles ms place d root at_place (path, x)) m at read no_clock in
      (f.0, f.2 ∙ ap (λ v. Some v) (sym (number_is ms root env nets now r is f.0 path x f.1 f.2)))
