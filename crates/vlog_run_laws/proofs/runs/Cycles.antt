-- Numbers that solve the equations of all nets are those of a cycle.
use Rattle.std.proofs.Common.{◌≡◌, ℕ, ◌<◌, Bool, true, false, cond, ◌&&◌, List, [], ◌∷◌, ◌++◌, Option, Some, None, inl, inr, refl, sym, ap, subst, ◌∙◌, map, arith}
use Rattle.std.specs.Prelude.{◌==◌, bytes_eq, if◌then◌else◌, count_by}
use Rattle.std.specs.List.{flat_map, AllByRecursion}
use Rattle.std.specs.Cmp.Lexicographic.{bytes_decides}
use Rattle.std.proofs.lemmas.Bool.Decides.{nat_tests}
use Rattle.vlog_tree.specs.declared.tree.Value.{Value}
use Rattle.vlog_tree.specs.declared.tree.Connection.{Connection}
use Rattle.vlog_tree.specs.declared.tree.Item.{Item}
use Rattle.vlog_tree.specs.declared.tree.Item.TheVariants.{Wire, Reg, Memory, Assign, Always, Instance}
use Rattle.vlog_tree.specs.declared.table.Declaration.{Declaration}
use Rattle.vlog_tree.specs.declared.table.NetKind.{NetKind}
use Rattle.vlog_tree.specs.declared.table.NetKind.TheVariants.{Input, WireNet, Register, MemoryArray}
use Rattle.vlog_tree.specs.Form.{ModuleTree}
use Rattle.tapa_base.specs.Lists.{Has}
use Rattle.vlog_tree.specs.Cycle.{Cycle, Path, Holds, driven, module_at, Connected}
use Rattle.vlog_tree.specs.Table.{Name, declared, port_declared, items_declared, find_name, net_kind_of, bits_of, net_kind_is_input, net_kind_is_driven, net_kind_is_read, ports_of, first_violation}
use Rattle.vlog_tree.specs.V2.{v2_uses, all_connected}
use Rattle.vlog_tree.specs.V4.{v4_uses}
use Rattle.vlog_tree.specs.Loops.{item_instances}
use Rattle.vlog_tree.specs.Flattened.{FlatNet, outer_parts, lines_of}
use Rattle.tapa_base.proofs.Lists.{has_flat, of_flat}
use Rattle.vlog_run_laws.proofs.runs.Sound.{assign_driven, connection_port, connection_driven, is_known_module, input_is}
use Rattle.vlog_run_laws.proofs.runs.Alone.{alone, same_name, one_instance, instance_single, module_there, module_is, IsNamed}
use Rattle.vlog_run_laws.proofs.runs.Settled.{outside, Joined, joined, child_at, module_in}
use Rattle.vlog_run_laws.proofs.runs.Sizes.{sizes_of, declared_bits, has_line, memory_cells, found_name}
use Rattle.vlog_run_laws.proofs.runs.Drivers.{Source, value, output, sources, line_sources, source_of, source_cases, source_is, value_line, output_line, IsDrivenBy, assign_source, connection_has_source, few_sources, input_undriven}
use Rattle.vlog_run_laws.proofs.runs.Equations.{nets_at, first_number, input_value, undriven_value, source_value, equation_in, equation}
use Rattle.tapa_base.proofs.Tests.{both_true, true_not_false}
use Rattle.tapa_base.proofs.Got.{all_from}

port_first : (p : Declaration) (ports items : List Declaration) (x : Name) (b : Bool) → (net_kind_is_read (find_name ports x).net_kind ≡ true → find_name (ports ++ items) x ≡ find_name ports x)
    → net_kind_is_read (cond b p (find_name ports x)).net_kind ≡ true → cond b p (find_name (ports ++ items) x) ≡ cond b p (find_name ports x)
port_first p ports items x true f h = refl
port_first p ports items x false f h = f h

-- a port stands for itself among all names
pub port_stands : (ports items : List Declaration) (x : Name) → net_kind_is_read (net_kind_of ports x) ≡ true → find_name (ports ++ items) x ≡ find_name ports x
port_stands [] items x h = cc
port_stands (p ∷ ports) items x h = port_first p ports items x (bytes_eq p.name x) (port_stands ports items x) h

pub port_net_kind_declared : (m : ModuleTree) (x : Name) (s : NetKind) → net_kind_is_read s ≡ true → net_kind_of (map port_declared m.ports) x ≡ s → net_kind_of (declared m) x ≡ s
port_net_kind_declared m x s r e = ap (λ (d : Declaration). d.net_kind) (port_stands (map port_declared m.ports) (items_declared m.items) x (ap net_kind_is_read e ∙ r)) ∙ e

first_is : (v : FlatNet → ℕ) (ns : List FlatNet) (b : FlatNet) → Has ns b → ((c : FlatNet) → Has ns c → c ≡ b) → first_number v ns ≡ v b
first_is v [] b h f = absurd h
first_is v (n ∷ ns) b h f = ap v (f n (inl refl))

count_below : (n : ℕ) → (n == 1) ≡ true → n < 2
count_below n e = grind (arith, nat_tests)

-- each port of an instance has one connection
pub connected_once : (ports : List Declaration) (connections : List Connection) → all_connected ports connections ≡ true → (d : Declaration) → Has ports d → (count_by (λ (l : Connection). bytes_eq l.port d.name) connections == 1) ≡ true
connected_once [] connections e d h = absurd h
connected_once (p ∷ ports) connections e d (inl s) =
    subst (λ (q : Declaration). (count_by (λ (l : Connection). bytes_eq l.port q.name) connections == 1) ≡ true) s (both_true (count_by (λ (l : Connection). bytes_eq l.port p.name) connections == 1) (all_connected ports connections) e).0
connected_once (p ∷ ports) connections e d (inr h) = connected_once ports connections (both_true (count_by (λ (l : Connection). bytes_eq l.port p.name) connections == 1) (all_connected ports connections) e).1 d h

module _ (ms : List ModuleTree) (names : first_violation (v2_uses ms) ≡ None) (m : ModuleTree) (in_ms : Has ms m) where
  source_driven : (x : Name) (s : Source) → Has (sources ms m.items) (x, s) → net_kind_is_driven (net_kind_of (declared m) x) ≡ true
  source_driven x (value e) h =
      let t = of_flat (line_sources ms) m.items (x, value e) h in
      assign_driven ms names m in_ms x e (subst (λ z. Has m.items z) (value_line ms t.0 x e t.2) t.1)
  source_driven x (output i p) h =
      let t = of_flat (line_sources ms) m.items (x, output i p) h in
      let d : IsDrivenBy ms m.items x i p = output_line ms m.items t.0 t.1 x i p t.2 in
      subst (λ z. net_kind_is_driven (net_kind_of (declared m) z) ≡ true) d.net (connection_driven ms names m in_ms d.kn i d.connections d.has d.connection d.connected d.output)

  -- what no line may drive has no source
  pub undriven : (x : Name) → net_kind_is_driven (net_kind_of (declared m) x) ≡ false → source_of (sources ms m.items) x ≡ None
  undriven x e = elim (source_cases (sources ms m.items) x) [
    | inl n ↦ n
    | inr r ↦ absurd (true_not_false (sym (source_driven x r.0 r.1) ∙ e))
  ]

  -- an instance's input has one connection
  one_connection : (kn i : Name) (connections : List Connection) → Has m.items (Instance kn i connections) → (l k : Connection) → Has connections l → Has connections k → l.port ≡ k.port → net_kind_is_read (net_kind_of (map port_declared (ports_of ms kn)) l.port) ≡ true → l ≡ k
  one_connection kn i connections has l k h g e r =
      let f = found_name (map port_declared (ports_of ms kn)) l.port net_kind_is_read refl r in
      let d = find_name (map port_declared (ports_of ms kn)) l.port in
      let low : count_by (λ (q : Connection). bytes_eq q.port d.name) connections < 2 = count_below _ (connected_once (map port_declared (ports_of ms kn)) connections (instance_single ms names m in_ms kn i connections has).1 d f.0) in
      alone (λ (q : Connection). bytes_eq q.port d.name) connections l k h g ((bytes_decides l.port d.name).1 (sym f.1)) ((bytes_decides k.port d.name).1 (sym e ∙ sym f.1)) low

module _ (ms : List ModuleTree) (root : ModuleTree) (path : Path) (m : ModuleTree) (at : module_at ms root path ≡ Some m) (kn i : Name) (connections : List Connection) (has : Has m.items (Instance kn i connections)) (l : Connection) (h : Has connections l) where
  abbrev by_test : Bool → List FlatNet
  by_test b = if b then (path, l.net) ∷ [] else []

  abbrev outer_connections : List FlatNet
  outer_connections = flat_map (λ (k : Connection). if bytes_eq k.port l.port && net_kind_is_input (net_kind_of (map port_declared (ports_of ms kn)) k.port) then (path, k.net) ∷ [] else []) connections

  abbrev by_name : Bool → List FlatNet
  by_name b = if b then outer_connections else []

  pub outside_has : net_kind_is_input (net_kind_of (map port_declared (ports_of ms kn)) l.port) ≡ true → Has (outside ms root (i ∷ path, l.port)) (path, l.net)
  outside_has e =
      subst (λ o. Has (flat_map (outer_parts ms path i l.port) (lines_of o)) (path, l.net)) (sym at)
      (has_flat (outer_parts ms path i l.port) m.items (Instance kn i connections) (path, l.net) has
      (subst (λ b. Has (by_name b) (path, l.net)) (sym (same_name i))
      (has_flat (λ (k : Connection). if bytes_eq k.port l.port && net_kind_is_input (net_kind_of (map port_declared (ports_of ms kn)) k.port) then (path, k.net) ∷ [] else []) connections l (path, l.net) h
      (subst (λ b. Has (by_test (b && net_kind_is_input (net_kind_of (map port_declared (ports_of ms kn)) l.port))) (path, l.net)) (sym (same_name l.port))
      (subst (λ b. Has (by_test b) (path, l.net)) (sym e) (inl refl))))))

module _ (ms : List ModuleTree) (root : ModuleTree) (names : first_violation (v2_uses ms) ≡ None) (drivers : first_violation (v4_uses ms) ≡ None) (in_root : Has ms root)
    (held : Path → Cycle) (give : Name → ℕ → ℕ) (v : FlatNet → ℕ) (solves : (n : FlatNet) → v n ≡ equation ms root held give n v) where
  module _ (path : Path) (m : ModuleTree) (at : module_at ms root path ≡ Some m) where
    in_ms : Has ms m
    in_ms = module_in ms root in_root path m at

    number_is : (x : Name) (o : Option Source) → source_of (sources ms m.items) x ≡ o → v (path, x) ≡ source_value ms root held give m v (path, x) o
    number_is x o e = solves (path, x) ∙ ap (λ k. equation_in ms root held give k (path, x) v) at ∙ ap (λ k. source_value ms root held give m v (path, x) k) e

    pub held_number : (x : Name) → net_kind_of (declared m) x ≡ Register → v (path, x) ≡ (held path).net x
    held_number x e = number_is x None (undriven ms names m in_ms x (ap net_kind_is_driven e)) ∙ ap (λ s. undriven_value ms root held give s v (path, x)) e

    pub input_number : (x : Name) → net_kind_of (declared m) x ≡ Input → v (path, x) ≡ input_value ms root held give v (path, x)
    input_number x e = number_is x None (input_undriven ms drivers m in_ms x e) ∙ ap (λ s. undriven_value ms root held give s v (path, x)) e

    assign_number : (x : Name) (e : Value) → Has m.items (Assign x e) → v (path, x) ≡ driven (sizes_of m) (bits_of (declared m) x) (nets_at held v path) e
    assign_number x e has = number_is x (Some (value e)) (source_is (sources ms m.items) x (value e) (assign_source ms m.items x e has) (few_sources ms drivers m in_ms x (assign_driven ms names m in_ms x e has)))

    output_number : (kn i : Name) (connections : List Connection) → Has m.items (Instance kn i connections) → (l : Connection) → Has connections l → net_kind_is_input (net_kind_of (map port_declared (ports_of ms kn)) l.port) ≡ false → v (path, l.net) ≡ v (i ∷ path, l.port)
    output_number kn i connections has l h e =
        number_is l.net (Some (output i l.port)) (source_is (sources ms m.items) l.net (output i l.port) (connection_has_source ms m.items kn i connections has l h e)
        (few_sources ms drivers m in_ms l.net (connection_driven ms names m in_ms kn i connections has l h e)))

    line_holds : (it : Item) → Has m.items it → Holds (sizes_of m) (nets_at held v path) it
    line_holds (Wire w x) has = declared_bits m ms names in_ms _ (has_line m ms names in_ms (Wire w x) has (record { name = x; net_kind = WireNet; bits = w; cells = 0 }) (inl refl))
    line_holds (Reg w x) has = declared_bits m ms names in_ms _ (has_line m ms names in_ms (Reg w x) has (record { name = x; net_kind = Register; bits = w; cells = 0 }) (inl refl))
    line_holds (Memory w x n) has = (declared_bits m ms names in_ms _ (has_line m ms names in_ms (Memory w x n) has (record { name = x; net_kind = MemoryArray; bits = w; cells = n }) (inl refl)), memory_cells m ms names in_ms w x n has)
    line_holds (Assign x e) has = assign_number x e has
    line_holds (Always b) has = tt
    line_holds (Instance kn i connections) has = tt

    pub lines_hold : AllByRecursion (Holds (sizes_of m) (nets_at held v path)) m.items
    lines_hold = all_from (Holds (sizes_of m) (nets_at held v path)) m.items line_holds

  module _ (path : Path) (m : ModuleTree) (at : module_at ms root path ≡ Some m) (kn i : Name) (connections : List Connection) (has : Has m.items (Instance kn i connections)) (l : Connection) (h : Has connections l) where
    connection_read : net_kind_is_read (net_kind_of (map port_declared (ports_of ms kn)) l.port) ≡ true
    connection_read = connection_port ms names m (module_in ms root in_root path m at) kn i connections has l h

    outside_is : (c : FlatNet) → Joined ms root m path i l.port c → c ≡ (path, l.net)
    outside_is c j =
        let u = one_instance ms names m (module_in ms root in_root path m at) j.kn kn i j.connections connections j.has has in
        let connected : Has connections j.connection = subst (λ ls. Has ls j.connection) u.1 j.connected in
        let same : l ≡ j.connection = one_connection ms names m (module_in ms root in_root path m at) kn i connections has l j.connection h connected (sym j.port) connection_read in
        sym j.is ∙ ap (λ (k : Connection). (path, k.net)) (sym same)

    connection_number : (b : Bool) → net_kind_is_input (net_kind_of (map port_declared (ports_of ms kn)) l.port) ≡ b → v (i ∷ path, l.port) ≡ v (path, l.net)
    connection_number true e =
        let t = module_there ms kn (is_known_module ms names m (module_in ms root in_root path m at) kn i connections has) in
        let n : IsNamed ms kn t.0 = module_is ms kn t.0 t.1 in
        let net_kind : net_kind_of (map port_declared t.0.ports) l.port ≡ Input = subst (λ ps. net_kind_of (map port_declared ps) l.port ≡ Input) n.ports (input_is _ e) in
        let below = child_at ms root names m (module_in ms root in_root path m at) path at kn i t.0 (has_flat item_instances m.items (Instance kn i connections) (kn, i) has (inl refl)) t.1 in
        input_number (i ∷ path) t.0 below l.port (port_net_kind_declared t.0 l.port Input refl net_kind)
        ∙ first_is v (outside ms root (i ∷ path, l.port)) (path, l.net) (outside_has ms root path m at kn i connections has l h e)
        (λ c g. outside_is c (joined ms root m path at i l.port c g))
    connection_number false e = sym (output_number path m at kn i connections has l h e)

    pub connection_same : v (i ∷ path, l.port) ≡ v (path, l.net)
    connection_same = connection_number _ refl

  line_connected : (path : Path) (m : ModuleTree) → module_at ms root path ≡ Some m → (it : Item) → Has m.items it → Connected (nets_at held v) path it
  line_connected path m at (Instance kn i connections) has = all_from (λ (l : Connection). v (i ∷ path, l.port) ≡ v (path, l.net)) connections (λ l h. connection_same path m at kn i connections has l h)
  line_connected path m at (Wire w x) has = tt
  line_connected path m at (Reg w x) has = tt
  line_connected path m at (Memory w x n) has = tt
  line_connected path m at (Assign x e) has = tt
  line_connected path m at (Always b) has = tt

  pub lines_connected : (path : Path) (m : ModuleTree) → module_at ms root path ≡ Some m → AllByRecursion (Connected (nets_at held v) path) m.items
  lines_connected path m at = all_from (Connected (nets_at held v) path) m.items (line_connected path m at)
