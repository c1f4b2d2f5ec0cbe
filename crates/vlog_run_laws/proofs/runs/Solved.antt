-- In each cycle of a run the declared nets solve their equations.
use Rattle.std.proofs.Common.{◌≡◌, ℕ, ◌+◌, ◌<◌, ◌≤◌, Bool, true, false, cond, List, [], ◌∷◌, Option, Some, None, inl, inr, refl, sym, ap, subst, ◌∙◌, map, arith}
use Rattle.std.specs.Prelude.{◌==◌, bytes_eq, nat_lt, count_by}
use Rattle.std.specs.List.{AllByRecursion}
use Rattle.std.specs.Cmp.Lexicographic.{bytes_decides}
use Rattle.std.proofs.lemmas.Bool.Decides.{nat_tests}
use Rattle.vlog_tree.specs.declared.tree.Value.{Value}
use Rattle.vlog_tree.specs.declared.tree.Value.TheVariants.{Plain, Invert, Binary, Choose, Concat, Repeat, Cell}
use Rattle.vlog_tree.specs.declared.tree.Connection.{Connection}
use Rattle.vlog_tree.specs.declared.tree.Item.{Item}
use Rattle.vlog_tree.specs.declared.tree.Item.TheVariants.{Wire, Reg, Memory, Assign, Always, Instance}
use Rattle.vlog_tree.specs.declared.table.Declaration.{Declaration}
use Rattle.vlog_tree.specs.declared.table.NetKind.{NetKind}
use Rattle.vlog_tree.specs.declared.table.NetKind.TheVariants.{Unknown, Input, Output, WireNet, Register, MemoryArray, ChildInstance}
use Rattle.vlog_tree.specs.Form.{ModuleTree, is_input}
use Rattle.tapa_base.specs.Lists.{Has}
use Rattle.vlog_tree.specs.Cycle.{Cycle, Path, Sizes, Holds, PortHolds, Connected, driven, read_cell, module_at, child_of, and_then}
use Rattle.vlog_tree.specs.Table.{declaration_name, Name, declared, port_declared, items_declared, find_name, net_kind_of, bits_of, net_kind_is_read, net_kind_is_driven, net_kind_is_input, ports_of, first_violation, module_named, one_if}
use Rattle.vlog_tree.specs.V2.{v2_uses, all_connected}
use Rattle.vlog_tree.specs.declared.tree.PortDecl.{PortDecl}
use Rattle.vlog_tree.specs.V4.{v4_uses}
use Rattle.vlog_tree.specs.Flattened.{FlatNet}
use Rattle.tapa_base.proofs.Lists.{of_flat, of_map, has_map}
use Rattle.vlog_run_laws.specs.runs.OneRun.{SameHeld}
use Rattle.vlog_run_laws.proofs.runs.Sound.{assign_driven, assign_reads, assign_cell}
use Rattle.vlog_run_laws.proofs.runs.Alone.{count_cons, instance_single, module_is, IsNamed, find_there}
use Rattle.vlog_run_laws.proofs.runs.Settled.{outside, Joined, joined, module_in}
use Rattle.vlog_run_laws.proofs.runs.Sizes.{sizes_of, width_held, memory_item, register_item, memory_cells}
use Rattle.vlog_run_laws.proofs.runs.Values.{driven_same, ReadsAlike}
use Rattle.vlog_run_laws.proofs.runs.Drivers.{Source, value, output, sources, line_sources, source_of, source_cases, value_line, output_line, IsDrivenBy, has_source}
use Rattle.vlog_run_laws.proofs.runs.Equations.{nets_at, first_number, input_value, undriven_value, source_value, module_equation}
use Rattle.vlog_run_laws.proofs.runs.Cycles.{port_stands, outside_has}
use Rattle.vlog_run_laws.proofs.runs.Alike.{memory_is}
use Rattle.vlog_run_laws.proofs.runs.TopPorts.{input_port}
use Rattle.tapa_base.proofs.Tests.{both_true}
use Rattle.tapa_base.proofs.Got.{all_at}

abbrev pub numbers : (Path → Cycle) → FlatNet → ℕ
numbers c k = (c k.0).net k.1

pub below_of : (a n : ℕ) → nat_lt a n ≡ true → a < n
below_of a n h = grind (arith, nat_tests)

read_of : (b : Bool) (a n p q : ℕ) → nat_lt a n ≡ b → (a < n → p ≡ q) → cond b p 0 ≡ cond b q 0
read_of true a n p q e f = f (below_of a n e)
read_of false a n p q e f = refl

pub some_step : {A : Type 0} (p : A → Bool) (x : A) (xs : List A) (b : Bool) → p x ≡ b → 1 ≤ one_if b + count_by p xs → (1 ≤ count_by p xs → (y : A) × Has xs y × (p y ≡ true)) → (y : A) × Has (x ∷ xs) y × (p y ≡ true)
some_step p x xs true e h f = (x, inl refl, e)
some_step p x xs false e h f = let r = f (omega arith) in (r.0, inr r.1, r.2)

pub some_counted : {A : Type 0} (p : A → Bool) (xs : List A) → 1 ≤ count_by p xs → (x : A) × Has xs x × (p x ≡ true)
some_counted p [] h = absurd (omega arith)
some_counted p (x ∷ xs) h = some_step p x xs (p x) refl (subst (λ n. 1 ≤ n) (count_cons p x xs) h) (some_counted p xs)

pub count_one : (n : ℕ) → (n == 1) ≡ true → 1 ≤ n
count_one n e = grind (arith, nat_tests)

connection_for : (ports : List Declaration) (connections : List Connection) → all_connected ports connections ≡ true → (d : Declaration) → Has ports d → (l : Connection) × Has connections l × (bytes_eq l.port d.name ≡ true)
connection_for [] connections e d h = absurd h
connection_for (p ∷ ports) connections e d (inl s) =
    subst (λ (q : Declaration). (l : Connection) × Has connections l × (bytes_eq l.port q.name ≡ true)) s
    (some_counted (λ (l : Connection). bytes_eq l.port p.name) connections (count_one _ (both_true _ (all_connected ports connections) e).0))
connection_for (p ∷ ports) connections e d (inr h) = connection_for ports connections (both_true (count_by (λ (l : Connection). bytes_eq l.port p.name) connections == 1) (all_connected ports connections) e).1 d h

child_step : (items : List Item) (k j i kn : Name) (connections : List Connection) (b : Bool) → bytes_eq j i ≡ b → (child_of items i ≡ Some kn → (ls : List Connection) × Has items (Instance kn i ls)) → cond b (Some k) (child_of items i) ≡ Some kn
    → (ls : List Connection) × Has {N = Item} (Instance k j connections ∷ items) (Instance kn i ls)
child_step items k j i kn connections true e f h = let same : k ≡ kn = cc h in (connections, inl (ap (λ z. Instance z j connections) same ∙ ap (λ z. Instance kn z connections) ((bytes_decides j i).0 e)))
child_step items k j i kn connections false e f h = let r = f h in (r.0, inr r.1)

-- the line of an instance
pub child_item : (items : List Item) (i kn : Name) → child_of items i ≡ Some kn → (connections : List Connection) × Has items (Instance kn i connections)
child_item [] i kn h = cc
child_item (Instance k j connections ∷ items) i kn h = child_step items k j i kn connections (bytes_eq j i) refl (child_item items i kn) h
child_item (Wire w x ∷ items) i kn h = let r = child_item items i kn h in (r.0, inr r.1)
child_item (Reg w x ∷ items) i kn h = let r = child_item items i kn h in (r.0, inr r.1)
child_item (Memory w x n ∷ items) i kn h = let r = child_item items i kn h in (r.0, inr r.1)
child_item (Assign x e ∷ items) i kn h = let r = child_item items i kn h in (r.0, inr r.1)
child_item (Always b ∷ items) i kn h = let r = child_item items i kn h in (r.0, inr r.1)

-- the module around an instance's
pub record Around (ms : List ModuleTree) (root : ModuleTree) (i : Name) (path : Path) (m : ModuleTree) : Type 0 where
  pub tree : ModuleTree
  pub at : module_at ms root path ≡ Some tree
  pub kn : Name
  pub child : child_of tree.items i ≡ Some kn
  pub named : module_named ms kn ≡ Some m

around_named : (ms : List ModuleTree) (root : ModuleTree) (i : Name) (path : Path) (m k : ModuleTree) → module_at ms root path ≡ Some k → (o : Option Name) → child_of k.items i ≡ o → and_then o (module_named ms) ≡ Some m → Around ms root i path m
around_named ms root i path m k at None e h = cc
around_named ms root i path m k at (Some kn) e h = record { tree = k; at = at; kn = kn; child = e; named = h }

around_of : (ms : List ModuleTree) (root : ModuleTree) (i : Name) (path : Path) (m : ModuleTree) (o : Option ModuleTree) → module_at ms root path ≡ o → and_then o (λ (m : ModuleTree). and_then (child_of m.items i) (module_named ms)) ≡ Some m → Around ms root i path m
around_of ms root i path m None e h = cc
around_of ms root i path m (Some k) e h = around_named ms root i path m k e (child_of k.items i) refl h

pub module_around : (ms : List ModuleTree) (root : ModuleTree) (i : Name) (path : Path) (m : ModuleTree) → module_at ms root (i ∷ path) ≡ Some m → Around ms root i path m
module_around ms root i path m at = around_of ms root i path m (module_at ms root path) refl at

first_at : (v : FlatNet → ℕ) (ns : List FlatNet) (b : FlatNet) (r : ℕ) → Has ns b → ((c : FlatNet) → Has ns c → v c ≡ r) → first_number v ns ≡ r
first_at v [] b r h f = absurd h
first_at v (n ∷ ns) b r h f = f n (inl refl)

port_is_read : (ps : List PortDecl) (x : Name) → Has (map declaration_name (map port_declared ps)) x → net_kind_is_read (net_kind_of (map port_declared ps) x) ≡ true
port_is_read ps x h =
    let t = of_map declaration_name (map port_declared ps) x h in
    let f = find_there (map port_declared ps) t.0 t.1 in
    let q = of_map port_declared ps (find_name (map port_declared ps) t.0.name) f.0 in
    subst (λ z. net_kind_is_read (net_kind_of (map port_declared ps) z) ≡ true) t.2 (ap (λ (d : Declaration). net_kind_is_read d.net_kind) (sym q.2) ∙ is_read (is_input q.0.direction)) where
      is_read : (i : Bool) → net_kind_is_read (cond i Input Output) ≡ true
      is_read true = refl
      is_read false = refl

-- numbers that the lines of a module allow
pub record Lawful (m : ModuleTree) (c : Cycle) : Type 0 where
  pub sizes : Sizes
  pub ports : AllByRecursion (PortHolds sizes) m.ports
  pub lines : AllByRecursion (Holds sizes c) m.items

-- the numbers of one cycle that the lines and connections of all modules allow
pub record Allowed (ms : List ModuleTree) (root : ModuleTree) (c : Path → Cycle) : Type 0 where
  pub each : (path : Path) (m : ModuleTree) → module_at ms root path ≡ Some m → Lawful m (c path)
  pub connections : (path : Path) (m : ModuleTree) → module_at ms root path ≡ Some m → AllByRecursion (Connected c path) m.items

module _ (ms : List ModuleTree) (root : ModuleTree) (names : first_violation (v2_uses ms) ≡ None) (drivers : first_violation (v4_uses ms) ≡ None) (in_root : Has ms root)
    (c : Path → Cycle) (allowed : Allowed ms root c) where
  connection_allowed : (path : Path) (m : ModuleTree) → module_at ms root path ≡ Some m → (kn i : Name) (connections : List Connection) → Has m.items (Instance kn i connections) → (l : Connection) → Has connections l → numbers c (i ∷ path, l.port) ≡ numbers c (path, l.net)
  connection_allowed path m at kn i connections has l h =
      all_at (λ (l : Connection). (c (i ∷ path)).net l.port ≡ (c path).net l.net) connections l (all_at (Connected c path) m.items (Instance kn i connections) (allowed.connections path m at) has) h

  module _ (path : Path) (m : ModuleTree) (at : module_at ms root path ≡ Some m) where
    here : Has ms m
    here = module_in ms root in_root path m at

    cells_allowed : (w : ℕ) (k : Name) (n : ℕ) → Has m.items (Memory w k n) → (allowed.each path m at).sizes.cells k ≡ n
    cells_allowed w k n has = (all_at (Holds (allowed.each path m at).sizes (c path)) m.items (Memory w k n) (allowed.each path m at).lines has).1

    module _ (held : Path → Cycle) (agrees : AllByRecursion (SameHeld (c path) (held path)) m.items) where
      cell_reads : (k : Name) → net_kind_of (declared m) k ≡ MemoryArray → (a : ℕ) → read_cell (allowed.each path m at).sizes (c path) k a ≡ read_cell (sizes_of m) (nets_at held (numbers c) path) k a
      cell_reads k s a =
          let t = memory_item m k s in
          ap (λ n. cond (nat_lt a n) ((c path).cell k a) 0) (cells_allowed t.0 k t.1 t.2)
          ∙ read_of (nat_lt a t.1) a t.1 ((c path).cell k a) ((held path).cell k a) refl (λ low. all_at (SameHeld (c path) (held path)) m.items (Memory t.0 k t.1) agrees t.2 a low)
          ∙ ap (λ n. cond (nat_lt a n) ((held path).cell k a) 0) (sym (memory_cells m ms names here t.0 k t.1 t.2))

      reads_alike : (x : Name) (e : Value) → Has m.items (Assign x e) → ReadsAlike (c path) (nets_at held (numbers c) path) (allowed.each path m at).sizes (sizes_of m) e
      reads_alike x (Cell k y) has = cell_reads k (memory_is _ (assign_cell ms names m here x k y has))
      reads_alike x (Plain a) has = tt
      reads_alike x (Invert a) has = tt
      reads_alike x (Binary a op b) has = tt
      reads_alike x (Choose t a b) has = tt
      reads_alike x (Concat atoms) has = tt
      reads_alike x (Repeat n a) has = tt

      assign_solves : (x : Name) (e : Value) → Has m.items (Assign x e) → (c path).net x ≡ driven (sizes_of m) (bits_of (declared m) x) (nets_at held (numbers c) path) e
      assign_solves x e has =
          all_at (Holds (allowed.each path m at).sizes (c path)) m.items (Assign x e) (allowed.each path m at).lines has
          ∙ driven_same (c path) (nets_at held (numbers c) path) (allowed.each path m at).sizes (sizes_of m) ((allowed.each path m at).sizes.width x) (bits_of (declared m) x) e
          (width_held m (allowed.each path m at).sizes (c path) (allowed.each path m at).ports (allowed.each path m at).lines x net_kind_is_driven refl refl (assign_driven ms names m here x e has))
          (λ z h. refl)
          (λ z h. width_held m (allowed.each path m at).sizes (c path) (allowed.each path m at).ports (allowed.each path m at).lines z net_kind_is_read refl refl (assign_reads ms names m here x e has z h).0)
          (reads_alike x e has)

      source_solves : (give : Name → ℕ → ℕ) (x : Name) (s : Source) → Has (sources ms m.items) (x, s) → (c path).net x ≡ source_value ms root held give m (numbers c) (path, x) (Some s)
      source_solves give x (value e) h = let t = of_flat (line_sources ms) m.items (x, value e) h in assign_solves x e (subst (λ z. Has m.items z) (value_line ms t.0 x e t.2) t.1)
      source_solves give x (output i p) h =
          let t = of_flat (line_sources ms) m.items (x, output i p) h in
          let d : IsDrivenBy ms m.items x i p = output_line ms m.items t.0 t.1 x i p t.2 in
          subst (λ z. (c path).net z ≡ numbers c (i ∷ path, p)) d.net (subst (λ z. (c path).net d.connection.net ≡ numbers c (i ∷ path, z)) d.port (sym (connection_allowed path m at d.kn i d.connections d.has d.connection d.connected)))

      register_solves : (x : Name) → net_kind_of (declared m) x ≡ Register → (c path).net x ≡ (held path).net x
      register_solves x s = let t = register_item m x s in all_at (SameHeld (c path) (held path)) m.items (Reg t.0 x) agrees t.1

      undriven_solves : (give : Name → ℕ → ℕ) (x : Name) → source_of (sources ms m.items) x ≡ None → (net_kind_of (declared m) x ≡ Input → (c path).net x ≡ input_value ms root held give (numbers c) (path, x))
          → (s : NetKind) → net_kind_of (declared m) x ≡ s → net_kind_is_read s ≡ true → (c path).net x ≡ undriven_value ms root held give s (numbers c) (path, x)
      undriven_solves give x none f Input e r = f e
      undriven_solves give x none f Register e r = register_solves x e
      undriven_solves give x none f Output e r = absurd (has_source ms drivers m here x (ap net_kind_is_driven e) (λ i. cc (sym e ∙ i)) none)
      undriven_solves give x none f WireNet e r = absurd (has_source ms drivers m here x (ap net_kind_is_driven e) (λ i. cc (sym e ∙ i)) none)
      undriven_solves give x none f Unknown e r = cc
      undriven_solves give x none f MemoryArray e r = cc
      undriven_solves give x none f ChildInstance e r = cc

      pub net_solves : (give : Name → ℕ → ℕ) (x : Name) → net_kind_is_read (net_kind_of (declared m) x) ≡ true → (net_kind_of (declared m) x ≡ Input → (c path).net x ≡ input_value ms root held give (numbers c) (path, x))
          → (c path).net x ≡ module_equation ms root held give m (path, x) (numbers c)
      net_solves give x r f = elim (source_cases (sources ms m.items) x) [
        | inl none ↦ undriven_solves give x none f (net_kind_of (declared m) x) refl r ∙ ap (λ o. source_value ms root held give m (numbers c) (path, x) o) (sym none)
        | inr t ↦ source_solves give x t.0 t.1 ∙ ap (λ o. source_value ms root held give m (numbers c) (path, x) o) (sym t.2)
      ]

  from_outside : (i : Name) (path : Path) (k : ModuleTree) → module_at ms root path ≡ Some k → (x : Name) (b : FlatNet) → Joined ms root k path i x b → numbers c b ≡ (c (i ∷ path)).net x
  from_outside i path k at x b j = subst (λ n. numbers c n ≡ (c (i ∷ path)).net x) j.is (sym (connection_allowed path k at j.kn i j.connections j.has j.connection j.connected) ∙ ap (λ z. (c (i ∷ path)).net z) j.port)

  -- an input of an instance has the number of the net around
  pub inner_input : (i : Name) (path : Path) (m : ModuleTree) → module_at ms root (i ∷ path) ≡ Some m → (x : Name) → net_kind_of (declared m) x ≡ Input → (c (i ∷ path)).net x ≡ first_number (numbers c) (outside ms root (i ∷ path, x))
  inner_input i path m at x s =
      let a = module_around ms root i path m at in
      let in_around = module_in ms root in_root path a.tree a.at in
      let t = child_item a.tree.items i a.kn a.child in
      let n : IsNamed ms a.kn m = module_is ms a.kn m a.named in
      let p = input_port m x s in
      let has : Has (map port_declared m.ports) (port_declared p.0) = has_map port_declared m.ports p.0 p.1 in
      let there = find_there (map port_declared m.ports) (port_declared p.0) has in
      let read : net_kind_is_read (net_kind_of (map port_declared m.ports) x) ≡ true = port_is_read m.ports x (subst (λ z. Has (map declaration_name (map port_declared m.ports)) z) p.2 (has_map declaration_name (map port_declared m.ports) (port_declared p.0) has)) in
      let input : net_kind_of (map port_declared m.ports) x ≡ Input = sym (ap (λ (d : Declaration). d.net_kind) (port_stands (map port_declared m.ports) (items_declared m.items) x read)) ∙ s in
      let l = connection_for (map port_declared m.ports) t.0 (subst (λ ps. all_connected (map port_declared ps) t.0 ≡ true) n.ports (instance_single ms names a.tree in_around a.kn i t.0 t.1).1) (port_declared p.0) has in
      let port : l.0.port ≡ x = (bytes_decides l.0.port p.0.name).0 l.2 ∙ p.2 in
      let given : net_kind_is_input (net_kind_of (map port_declared (ports_of ms a.kn)) l.0.port) ≡ true =
      subst (λ ps. net_kind_is_input (net_kind_of (map port_declared ps) l.0.port) ≡ true) (sym n.ports) (subst (λ z. net_kind_is_input (net_kind_of (map port_declared m.ports) z) ≡ true) (sym port) (ap net_kind_is_input input)) in
      let out : Has (outside ms root (i ∷ path, x)) (path, l.0.net) = subst (λ z. Has (outside ms root (i ∷ path, z)) (path, l.0.net)) port (outside_has ms root path a.tree a.at a.kn i t.0 t.1 l.0 l.1 given) in
      sym (first_at (numbers c) (outside ms root (i ∷ path, x)) (path, l.0.net) ((c (i ∷ path)).net x) out (λ b h. from_outside i path a.tree a.at x b (joined ms root a.tree path a.at i x b h)))
