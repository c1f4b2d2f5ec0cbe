-- The order in which the nets of a built module are declared: each depends on nets that are declared before it, so that
-- none depends on itself in one cycle.
use Rattle.std.specs.Prelude.{◌≡◌, ℕ, suc, ◌<◌, Bool, true, false, ◌&&◌, ◌||◌, List, [], ◌∷◌, Some, length, if◌then◌else◌, bytes_eq, map, not}
use Rattle.std.specs.List.{list_all, flat_map, AllByRecursion}
use Rattle.vlog_tree.specs.declared.tree.Connection.{Connection}
use Rattle.vlog_tree.specs.declared.table.Declaration.{Declaration}
use Rattle.vlog_tree.specs.declared.table.NetKind.TheVariants.{Input as InputNet, Output as OutputNet}
use Rattle.vlog_tree.specs.Form.{ModuleTree}
use Rattle.tapa_base.specs.Lists.{Has}
use Rattle.vlog_tree.specs.Table.{Name, clk, port_declared, net_kind_of, module_named}
use Rattle.vlog_tree.specs.Labels.{rst}
use Rattle.vlog_tree.specs.V6.{module_children}
use Rattle.vlog_tree.specs.Loops.{Rests, IsLoopless, memory_edges, value_nets}
use Rattle.hw_build.specs.Elements.{Element, Input, Output, Outlet, Wire, InstanceWire, Register, Memory, Block, Instance, built}
use Rattle.hw_build.specs.Forms.{is_element}
use Rattle.hw_build.specs.Fitting.{first_table, table_after, AreFitting}

-- the position of a name among what is declared, from 1 on, and 0 for others; the last one declared is first in the list
abbrev pub place_in : List Declaration → Name → ℕ
place_in [] x = 0
place_in (d ∷ t) x = if bytes_eq d.name x then suc (length t) else place_in t x

abbrev pub place : List Element → Name → ℕ
place elements x = place_in (table_after first_table elements) x

-- both are declared, and x before y
abbrev pub StandsBefore : List Element → Name → Name → Type 0
StandsBefore elements x y = (0 < place elements x) × (place elements x < place elements y)

-- no output of a module depends on an input of it
abbrev pub RestsOnNoInput : List ModuleTree → (Name → Bool) → ModuleTree → Type 0
RestsOnNoInput ms is_top k =
    (x y : Name) → net_kind_of (map port_declared k.ports) x ≡ OutputNet → net_kind_of (map port_declared k.ports) y ≡ InputNet → Rests ms is_top k x y → ⊥

-- where an output of an instance depends on an input of it, the input's net is declared before the output's
abbrev pub InstancesKeepOrder : List ModuleTree → (Name → Bool) → List Element → Type 0
InstancesKeepOrder ms is_top elements =
    (kn i : Name) (connections : List Connection) (k : ModuleTree) (out into : Connection) → Has elements (Instance kn i connections) → module_named ms kn ≡ Some k
    → Has connections out → Has connections into → net_kind_of (map port_declared k.ports) out.port ≡ OutputNet → net_kind_of (map port_declared k.ports) into.port ≡ InputNet
    → Rests ms is_top k out.port into.port → StandsBefore elements into.net out.net

-- at the top, what a memory answers is declared after the address that it is asked for
abbrev pub AnswersKeepOrder : (Name → Bool) → Name → List Element → Type 0
AnswersKeepOrder is_top name elements = (x y : Name) → Has (memory_edges (is_top name) (map port_declared (built name elements).ports)) (x, y) → StandsBefore elements y x

-- the modules of the instances
abbrev pub child_names : Element → List Name
child_names (Instance k i connections) = k ∷ []
child_names (Input w x) = []
child_names (Output w x v) = []
child_names (Outlet w x) = []
child_names (Wire w x v) = []
child_names (InstanceWire w x) = []
child_names (Register w x) = []
child_names (Memory w x n) = []
child_names (Block b) = []

abbrev pub ChildrenRestOnNoInput : List ModuleTree → (Name → Bool) → List Element → Type 0
ChildrenRestOnNoInput ms is_top elements = AllByRecursion (λ kn. (k : ModuleTree) → module_named ms kn ≡ Some k → RestsOnNoInput ms is_top k) (flat_map child_names elements)

-- no net of the built module depends on itself, if the instances and, at the top, the memories keep the order
abbrev pub BuiltHasNoLoop : Type 0
BuiltHasNoLoop =
    (ms : List ModuleTree) (is_top : Name → Bool) (name : Name) (elements : List Element) → AreFitting ms elements → list_all is_element elements ≡ true
    → InstancesKeepOrder ms is_top elements → AnswersKeepOrder is_top name elements → (x : Name) → Rests ms is_top (built name elements) x x → ⊥

-- and so if it isn't the top and no output of an instance depends on an input of it
abbrev pub RegisteredChildrenMakeNoLoop : Type 0
RegisteredChildrenMakeNoLoop =
    (ms : List ModuleTree) (is_top : Name → Bool) (name : Name) (elements : List Element) → AreFitting ms elements → list_all is_element elements ≡ true
    → is_top name ≡ false → ChildrenRestOnNoInput ms is_top elements → (x : Name) → Rests ms is_top (built name elements) x x → ⊥

-- no driver of a net that is called free reads another, and no input is called so
abbrev pub is_closed_at : (Name → Bool) → Element → Bool
is_closed_at free (Input w x) = not (free x)
is_closed_at free (Output w x v) = not (free x) || list_all free (value_nets v)
is_closed_at free (Wire w x v) = not (free x) || list_all free (value_nets v)
is_closed_at free (Outlet w x) = true
is_closed_at free (InstanceWire w x) = true
is_closed_at free (Register w x) = true
is_closed_at free (Memory w x n) = true
is_closed_at free (Block b) = true
is_closed_at free (Instance k i connections) = true

abbrev pub is_closed : (Name → Bool) → List Element → Bool
is_closed free elements = not (free clk) && not (free rst) && list_all (is_closed_at free) elements

abbrev pub output_names : Element → List Name
output_names (Output w x v) = x ∷ []
output_names (Outlet w x) = x ∷ []
output_names (Input w x) = []
output_names (Wire w x v) = []
output_names (InstanceWire w x) = []
output_names (Register w x) = []
output_names (Memory w x n) = []
output_names (Block b) = []
output_names (Instance k i connections) = []

-- an output of an instance that drives a free net depends on no input of its module
abbrev pub FreeOutputsRestOnNoInput : List ModuleTree → (Name → Bool) → (Name → Bool) → List Element → Type 0
FreeOutputsRestOnNoInput ms is_top free elements =
    (kn i : Name) (connections : List Connection) (k : ModuleTree) (out : Connection) (y : Name) → Has elements (Instance kn i connections) → module_named ms kn ≡ Some k
    → Has connections out → free out.net ≡ true → net_kind_of (map port_declared k.ports) out.port ≡ OutputNet → net_kind_of (map port_declared k.ports) y ≡ InputNet
    → Rests ms is_top k out.port y → ⊥

-- then an output that is a free net depends on no input, also at the top
abbrev pub FreeNetsRestOnNoInput : Type 0
FreeNetsRestOnNoInput =
    (ms : List ModuleTree) (is_top : Name → Bool) (name : Name) (elements : List Element) (free : Name → Bool) → AreFitting ms elements → list_all is_element elements ≡ true
    → FreeOutputsRestOnNoInput ms is_top free elements → is_closed free elements ≡ true
    → (x y : Name) → net_kind_of (map port_declared (built name elements).ports) x ≡ OutputNet → free x ≡ true → net_kind_of (map port_declared (built name elements).ports) y ≡ InputNet
    → Rests ms is_top (built name elements) x y → ⊥

abbrev pub FreeModulesRestOnNoInput : Type 0
FreeModulesRestOnNoInput =
    (ms : List ModuleTree) (is_top : Name → Bool) (name : Name) (elements : List Element) (free : Name → Bool) → AreFitting ms elements → list_all is_element elements ≡ true
    → FreeOutputsRestOnNoInput ms is_top free elements → is_closed free elements ≡ true → list_all free (flat_map output_names elements) ≡ true
    → RestsOnNoInput ms is_top (built name elements)

-- modules that contain modules of lower level, and in none of which a net depends on itself, have no loop
abbrev pub LooplessByLevels : Type 0
LooplessByLevels =
    (ms : List ModuleTree) (is_top : Name → Bool) (level : Name → ℕ) → ((m : ModuleTree) (kn : Name) → Has ms m → Has (module_children m) kn → level kn < level m.name)
    → ((m : ModuleTree) → Has ms m → (x : Name) → Rests ms is_top m x x → ⊥) → IsLoopless ms is_top
