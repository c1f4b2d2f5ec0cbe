-- The rule on names sees no difference between modules and the same with their numbers cut.
use Rattle.std.proofs.Common.{◌≡◌, ℕ, ◌+◌, min, fold, if◌then◌else◌, Bool, true, false, cond, ◌&&◌, ◌||◌, List, [], ◌∷◌, ◌++◌, Some, refl, sym, ap, ◌∙◌, map}
use Rattle.std.specs.Prelude.{bytes_eq, not, nat_le, ◌==◌, count_by, is_some}
use Rattle.std.specs.List.{flat_map}
use Rattle.std.proofs.lemmas.List.{map-append}
use Rattle.vlog_tree.specs.declared.tree.Atom.{Atom}
use Rattle.vlog_tree.specs.declared.tree.Atom.TheVariants.{Net, Part, Literal}
use Rattle.vlog_tree.specs.declared.tree.Value.{Value}
use Rattle.vlog_tree.specs.declared.tree.Value.TheVariants.{Plain, Invert, Binary, Choose, Concat, Repeat, Cell}
use Rattle.vlog_tree.specs.declared.tree.Step.{Step}
use Rattle.vlog_tree.specs.declared.tree.Step.TheVariants.{If, Else, End, NonblockingAssign, MemoryAssign}
use Rattle.vlog_tree.specs.declared.tree.Connection.{Connection}
use Rattle.vlog_tree.specs.declared.tree.Item.{Item}
use Rattle.vlog_tree.specs.declared.tree.Item.TheVariants.{Wire, Reg, Memory, Assign, Always, Instance}
use Rattle.vlog_tree.specs.declared.tree.PortDecl.{PortDecl}
use Rattle.vlog_tree.specs.declared.table.Declaration.{Declaration}
use Rattle.vlog_tree.specs.declared.table.NetKind.TheVariants.{WireNet, Register, MemoryArray, ChildInstance}
use Rattle.vlog_tree.specs.Form.{ModuleTree}
use Rattle.vlog_tree.specs.Table.{Name, NameUse, clk, is_clk, net_kind_is_read, net_kind_is_driven, net_kind_is_register, net_kind_is_memory, net_kind_is_input, declared, port_declared, module_declared, items_declared, find_name, net_kind_of, is_doubled_name, module_named, ports_in, ports_of, is_module_name}
use Rattle.vlog_tree.specs.V2.{read_use, driven_use, register_use, memory_use, clock_use, joined_use, atom_uses, value_uses, step_uses, inner_use, port_uses, all_connected, connection_uses, instance_uses, item_uses, module_uses, v2_uses}
use Rattle.vlog_tree.specs.Clamped.{clamped_atom, clamped_value, clamped_step, clamped_item, clamped_port, clamped}
use Rattle.vlog_tree.proofs.ClampedModules.{flat_alike, flat_same}

abbrev cut : Declaration → Declaration
cut d = record { name = d.name; net_kind = d.net_kind; bits = min d.bits 129; cells = min d.cells 1048577 }

find_of : (d f : Declaration) (b : Bool) → cond b (cut d) (cut f) ≡ cut (cond b d f)
find_of d f true = refl
find_of d f false = refl

find_cut : (ds : List Declaration) (x : Name) → find_name (map cut ds) x ≡ cut (find_name ds x)
find_cut [] x = refl
find_cut (d ∷ ds) x = ap (λ f. cond (bytes_eq d.name x) (cut d) f) (find_cut ds x) ∙ find_of d (find_name ds x) (bytes_eq d.name x)

ports_cut : (ps : List PortDecl) → map port_declared (map clamped_port ps) ≡ map cut (map port_declared ps)
ports_cut [] = refl
ports_cut (p ∷ ps) = ap (λ ds. cut (port_declared p) ∷ ds) (ports_cut ps)

items_cut : (items : List Item) → items_declared (map clamped_item items) ≡ map cut (items_declared items)
items_cut [] = refl
items_cut (Wire w x ∷ items) = ap (λ ds. record { name = x; net_kind = WireNet; bits = min w 129; cells = 0 } ∷ ds) (items_cut items)
items_cut (Reg w x ∷ items) = ap (λ ds. record { name = x; net_kind = Register; bits = min w 129; cells = 0 } ∷ ds) (items_cut items)
items_cut (Memory w x n ∷ items) = ap (λ ds. record { name = x; net_kind = MemoryArray; bits = min w 129; cells = min n 1048577 } ∷ ds) (items_cut items)
items_cut (Instance m i connections ∷ items) = ap (λ ds. record { name = i; net_kind = ChildInstance; bits = 0; cells = 0 } ∷ ds) (items_cut items)
items_cut (Assign x e ∷ items) = items_cut items
items_cut (Always b ∷ items) = items_cut items

declared_cut : (m : ModuleTree) → declared (clamped m) ≡ map cut (declared m)
declared_cut m =
    ap (λ ds. ds ++ items_declared (map clamped_item m.items)) (ports_cut m.ports)
    ∙ ap (λ ds. map cut (map port_declared m.ports) ++ ds) (items_cut m.items)
    ∙ sym (map-append cut (map port_declared m.ports) (items_declared m.items))

-- ---- two lists of declarations that differ in numbers alone

record IsAlike (ds es : List Declaration) : Type 0 where
  net_kinds : (x : Name) → net_kind_of es x ≡ net_kind_of ds x
  doubled : (x : Name) → is_doubled_name es x ≡ is_doubled_name ds x

counted_same : (x : Name) (n : ℕ) (ds : List Declaration)
    → fold (λ (k : ℕ) (d : Declaration). k + cond (bytes_eq d.name x) 1 0) n (map cut ds) ≡ fold (λ (k : ℕ) (d : Declaration). k + cond (bytes_eq d.name x) 1 0) n ds
counted_same x n [] = refl
counted_same x n (d ∷ ds) = counted_same x (n + cond (bytes_eq d.name x) 1 0) ds

is_alike : (ds : List Declaration) → IsAlike ds (map cut ds)
is_alike ds = record { net_kinds = λ x. ap (λ (d : Declaration). d.net_kind) (find_cut ds x); doubled = λ x. ap (nat_le 2) (counted_same x 0 ds) }

module _ (ds es : List Declaration) (a : IsAlike ds es) where
  read_same : (x : Name) → read_use es x ≡ read_use ds x
  read_same x = ap (λ k. (x, not (net_kind_is_read k) || is_clk x)) (a.net_kinds x)

  driven_same : (x : Name) → driven_use es x ≡ driven_use ds x
  driven_same x = ap (λ k. (x, not (net_kind_is_driven k) || is_clk x)) (a.net_kinds x)

  register_same : (x : Name) → register_use es x ≡ register_use ds x
  register_same x = ap (λ k. (x, not (net_kind_is_register k))) (a.net_kinds x)

  memory_same : (x : Name) → memory_use es x ≡ memory_use ds x
  memory_same x = ap (λ k. (x, not (net_kind_is_memory k))) (a.net_kinds x)

  clock_same : clock_use es ≡ clock_use ds
  clock_same = ap (λ k. (clk, not (net_kind_is_input k))) (a.net_kinds clk)

  inner_same : (x : Name) → inner_use es x ≡ inner_use ds x
  inner_same x = ap (λ b. (x, b || is_clk x)) (a.doubled x)

  no_uses : (b : Bool) (w n v m : ℕ) → atom_uses es (cond b (Literal w n) (Literal v m)) ≡ []
  no_uses true w n v m = refl
  no_uses false w n v m = refl

  atom_same : (x : Atom) → atom_uses es (clamped_atom x) ≡ atom_uses ds x
  atom_same (Net x) = ap (λ u. u ∷ []) (read_same x)
  atom_same (Part x high low) = ap (λ u. u ∷ []) (read_same x)
  atom_same (Literal w n) = no_uses _ _ _ _ _

  two_same : (x y : Atom) → ◌≡◌ {A = List NameUse} (atom_uses es (clamped_atom x) ++ atom_uses es (clamped_atom y)) (atom_uses ds x ++ atom_uses ds y)
  two_same x y = ap (λ l. l ++ atom_uses es (clamped_atom y)) (atom_same x) ∙ ap (λ l. atom_uses ds x ++ l) (atom_same y)

  value_same : (v : Value) → value_uses es (clamped_value v) ≡ value_uses ds v
  value_same (Plain x) = atom_same x
  value_same (Invert x) = atom_same x
  value_same (Binary x op y) = two_same x y
  value_same (Choose c x y) = ap (λ l. l ++ (atom_uses es (clamped_atom x) ++ atom_uses es (clamped_atom y))) (atom_same c) ∙ ap (λ l. atom_uses ds c ++ l) (two_same x y)
  value_same (Concat atoms) = flat_same (atom_uses es) (atom_uses ds) clamped_atom atoms atom_same
  value_same (Repeat n x) = atom_same x
  value_same (Cell m x) = ap (λ u. u ∷ read_use es x ∷ []) (memory_same m) ∙ ap (λ u. memory_use ds m ∷ u ∷ []) (read_same x)

  step_same : (s : Step) → step_uses es (clamped_step s) ≡ step_uses ds s
  step_same (If c) = ap (λ u. u ∷ []) (read_same c)
  step_same Else = refl
  step_same End = refl
  step_same (NonblockingAssign x v) = ap (λ u. u ∷ atom_uses es (clamped_atom v)) (register_same x) ∙ ap (λ l. register_use ds x ∷ l) (atom_same v)
  step_same (MemoryAssign m x v) =
      ap (λ u. u ∷ read_use es x ∷ atom_uses es (clamped_atom v)) (memory_same m) ∙ ap (λ u. memory_use ds m ∷ u ∷ atom_uses es (clamped_atom v)) (read_same x) ∙ ap (λ l. memory_use ds m ∷ read_use ds x ∷ l) (atom_same v)

  port_same : (p : PortDecl) → port_uses es (clamped_port p) ≡ port_uses ds p
  unfolding port_uses
  port_same p = ap (λ b. (p.name, b) ∷ []) (a.doubled p.name)

  joined_by : (b c : Bool) (x : Name) → ◌≡◌ {A = NameUse} (if b then clock_use es else if c then read_use es x else driven_use es x) (if b then clock_use ds else if c then read_use ds x else driven_use ds x)
  joined_by true c x = clock_same
  joined_by false true x = read_same x
  joined_by false false x = driven_same x

  module _ (ports others : List Declaration) (p : IsAlike ports others) where
    connection_same : (l : Connection) → connection_uses others es l ≡ connection_uses ports ds l
    unfolding connection_uses
    connection_same l =
        ap (λ k. (l.port, not (net_kind_is_read k)) ∷ joined_use others es l ∷ []) (p.net_kinds l.port)
        ∙ ap (λ k. (l.port, not (net_kind_is_read (net_kind_of ports l.port))) ∷ (if is_clk l.port && is_clk l.net then clock_use es else if net_kind_is_input k then read_use es l.net else driven_use es l.net) ∷ []) (p.net_kinds l.port)
        ∙ ap (λ u. (l.port, not (net_kind_is_read (net_kind_of ports l.port))) ∷ u ∷ []) (joined_by (is_clk l.port && is_clk l.net) (net_kind_is_input (net_kind_of ports l.port)) l.net)

-- ---- modules

named_of : (b : Bool) (m : ModuleTree) (ms : List ModuleTree) (x : Name) → ports_in (module_named (map clamped ms) x) ≡ map clamped_port (ports_of ms x)
    → ports_in (cond b (Some (clamped m)) (module_named (map clamped ms) x)) ≡ map clamped_port (ports_in (cond b (Some m) (module_named ms x)))
named_of true m ms x ih = refl
named_of false m ms x ih = ih

ports_of_cut : (ms : List ModuleTree) (x : Name) → ports_of (map clamped ms) x ≡ map clamped_port (ports_of ms x)
ports_of_cut [] x = refl
ports_of_cut (m ∷ ms) x = named_of (bytes_eq m.name x) m ms x (ports_of_cut ms x)

some_of : (b : Bool) (m : ModuleTree) (ms : List ModuleTree) (x : Name) → is_module_name (map clamped ms) x ≡ is_module_name ms x
    → is_some (cond b (Some (clamped m)) (module_named (map clamped ms) x)) ≡ is_some (cond b (Some m) (module_named ms x))
some_of true m ms x ih = refl
some_of false m ms x ih = ih

known_cut : (ms : List ModuleTree) (x : Name) → is_module_name (map clamped ms) x ≡ is_module_name ms x
known_cut [] x = refl
known_cut (m ∷ ms) x = some_of (bytes_eq m.name x) m ms x (known_cut ms x)

declared_ports : (ms : List ModuleTree) (m : Name) → map port_declared (ports_of (map clamped ms) m) ≡ map cut (map port_declared (ports_of ms m))
declared_ports ms m = ap (map port_declared) (ports_of_cut ms m) ∙ ports_cut (ports_of ms m)

connected_same : (connections : List Connection) (ports : List Declaration) → all_connected (map cut ports) connections ≡ all_connected ports connections
connected_same connections [] = refl
connected_same connections (p ∷ ports) = ap (λ b. (count_by (λ (l : Connection). bytes_eq l.port p.name) connections == 1) && b) (connected_same connections ports)

names_same : (ms : List ModuleTree) → map module_declared (map clamped ms) ≡ map module_declared ms
names_same [] = refl
names_same (m ∷ ms) = ap (λ ds. module_declared m ∷ ds) (names_same ms)

module _ (ms : List ModuleTree) (ds : List Declaration) where
  -- an instance by the ports of its module
  abbrev by_ports : List Declaration → List Declaration → Name → Name → List Connection → List NameUse
  by_ports ports es m i connections = (m, not (is_module_name ms m)) ∷ (i, is_doubled_name es i || is_clk i || not (all_connected ports connections)) ∷ flat_map (connection_uses ports es) connections

  instance_same : (m i : Name) (connections : List Connection) → instance_uses (map clamped ms) (map cut ds) m i connections ≡ instance_uses ms ds m i connections
  unfolding instance_uses
  instance_same m i connections =
      let ports = map port_declared (ports_of ms m) in
      ap
      (λ b. (m, not b) ∷ (i, is_doubled_name (map cut ds) i || is_clk i || not (all_connected (map port_declared (ports_of (map clamped ms) m)) connections)) ∷ flat_map (connection_uses (map port_declared (ports_of (map clamped ms) m)) (map cut ds)) connections)
      (known_cut ms m)
      ∙ ap (λ ps. by_ports ps (map cut ds) m i connections) (declared_ports ms m)
      ∙ ap (λ b. (m, not (is_module_name ms m)) ∷ (i, b || is_clk i || not (all_connected (map cut ports) connections)) ∷ flat_map (connection_uses (map cut ports) (map cut ds)) connections) ((is_alike ds).doubled i)
      ∙ ap (λ b. (m, not (is_module_name ms m)) ∷ (i, is_doubled_name ds i || is_clk i || not b) ∷ flat_map (connection_uses (map cut ports) (map cut ds)) connections) (connected_same connections ports)
      ∙ ap (λ l. (m, not (is_module_name ms m)) ∷ (i, is_doubled_name ds i || is_clk i || not (all_connected ports connections)) ∷ l)
      (flat_alike (connection_uses (map cut ports) (map cut ds)) (connection_uses ports ds) connections (connection_same ds (map cut ds) (is_alike ds) ports (map cut ports) (is_alike ports)))

  item_same : (x : Item) → item_uses (map clamped ms) (map cut ds) (clamped_item x) ≡ item_uses ms ds x
  unfolding item_uses
  item_same (Wire w x) = ap (λ u. u ∷ []) (inner_same ds (map cut ds) (is_alike ds) x)
  item_same (Reg w x) = ap (λ u. u ∷ []) (inner_same ds (map cut ds) (is_alike ds) x)
  item_same (Memory w x n) = ap (λ u. u ∷ []) (inner_same ds (map cut ds) (is_alike ds) x)
  item_same (Assign x e) =
      ap (λ u. u ∷ value_uses (map cut ds) (clamped_value e)) (driven_same ds (map cut ds) (is_alike ds) x) ∙ ap (λ l. driven_use ds x ∷ l) (value_same ds (map cut ds) (is_alike ds) e)
  item_same (Always b) =
      ap (λ u. u ∷ flat_map (step_uses (map cut ds)) (map clamped_step b)) (clock_same ds (map cut ds) (is_alike ds))
      ∙ ap (λ l. clock_use ds ∷ l) (flat_same (step_uses (map cut ds)) (step_uses ds) clamped_step b (step_same ds (map cut ds) (is_alike ds)))
  item_same (Instance m i connections) = instance_same m i connections

module_same : (ms : List ModuleTree) (m : ModuleTree) → module_uses (map clamped ms) (clamped m) ≡ module_uses ms m
unfolding module_uses
module_same ms m =
    let ds = declared m in
    ap (λ l. (m.name, is_doubled_name l m.name) ∷ (flat_map (port_uses (declared (clamped m))) (map clamped_port m.ports) ++ flat_map (item_uses (map clamped ms) (declared (clamped m))) (map clamped_item m.items))) (names_same ms)
    ∙ ap (λ es. (m.name, is_doubled_name (map module_declared ms) m.name) ∷ (flat_map (port_uses es) (map clamped_port m.ports) ++ flat_map (item_uses (map clamped ms) es) (map clamped_item m.items))) (declared_cut m)
    ∙ ap (λ l. (m.name, is_doubled_name (map module_declared ms) m.name) ∷ (l ++ flat_map (item_uses (map clamped ms) (map cut ds)) (map clamped_item m.items))) (flat_same (port_uses (map cut ds)) (port_uses ds) clamped_port m.ports (port_same ds (map cut ds) (is_alike ds)))
    ∙ ap (λ l. (m.name, is_doubled_name (map module_declared ms) m.name) ∷ (flat_map (port_uses ds) m.ports ++ l)) (flat_same (item_uses (map clamped ms) (map cut ds)) (item_uses ms ds) clamped_item m.items (item_same ms ds))

pub names_cut : (ms : List ModuleTree) → v2_uses (map clamped ms) ≡ v2_uses ms
names_cut ms = flat_same (module_uses (map clamped ms)) (module_uses ms) clamped ms (module_same ms)
