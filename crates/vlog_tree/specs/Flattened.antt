-- What each net of a flattened design has its number from in the same cycle.
use Rattle.std.specs.Prelude.{Bool, true, false, ◌&&◌, List, [], ◌∷◌, ◌++◌, Option, Some, None, if◌then◌else◌, bytes_eq, map, not}
use Rattle.std.specs.List.{flat_map}
use Rattle.vlog_tree.specs.declared.table.Declaration.{Declaration}
use Rattle.vlog_tree.specs.declared.tree.Connection.{Connection}
use Rattle.vlog_tree.specs.declared.tree.Item.{Item}
use Rattle.vlog_tree.specs.declared.tree.Item.TheVariants.{Wire, Reg, Memory, Assign, Always, Instance}
use Rattle.vlog_tree.specs.Form.{ModuleTree}
use Rattle.vlog_tree.specs.Cycle.{Path, module_at}
use Rattle.vlog_tree.specs.Table.{Name, port_declared, net_kind_of, net_kind_is_input, ports_of}
use Rattle.vlog_tree.specs.Loops.{value_nets, asked_port}

-- a net of the flattened design
abbrev pub FlatNet : Type 0
FlatNet = Path × Name

-- what a net has its number from by one line of its module: a driver's nets, or an output of an instance
abbrev pub line_parts : List ModuleTree → Path → Name → Item → List FlatNet
line_parts ms path x (Assign y e) = if bytes_eq y x then map (λ z. (path, z)) (value_nets e) else []
line_parts ms path x (Instance m i connections) =
    flat_map (λ (l : Connection). if bytes_eq l.net x && not (net_kind_is_input (net_kind_of (map port_declared (ports_of ms m)) l.port)) then (i ∷ path, l.port) ∷ [] else []) connections
line_parts ms path x (Wire w y) = []
line_parts ms path x (Reg w y) = []
line_parts ms path x (Memory w y n) = []
line_parts ms path x (Always b) = []

-- what an input of an instance has its number from
abbrev pub outer_parts : List ModuleTree → Path → Name → Name → Item → List FlatNet
outer_parts ms path i x (Instance m j connections) =
    if bytes_eq j i then flat_map (λ (l : Connection). if bytes_eq l.port x && net_kind_is_input (net_kind_of (map port_declared (ports_of ms m)) l.port) then
    (path, l.net) ∷ [] else []) connections else []
outer_parts ms path i x (Assign y e) = []
outer_parts ms path i x (Wire w y) = []
outer_parts ms path i x (Reg w y) = []
outer_parts ms path i x (Memory w y n) = []
outer_parts ms path i x (Always b) = []

abbrev pub lines_of : Option ModuleTree → List Item
lines_of None = []
lines_of (Some m) = m.items

-- at the top's ports a memory's read data depends on its address
abbrev pub memory_parts : Bool → List Declaration → Name → List FlatNet
memory_parts false ports x = []
memory_parts true ports x = map (λ y. ([], y)) (asked_port ports x)

-- all that a net has its number from in the same cycle; the last argument says whether the root is the top
abbrev pub parts : List ModuleTree → ModuleTree → Bool → FlatNet → List FlatNet
parts ms root is_top ([], x) = flat_map (line_parts ms [] x) root.items ++ memory_parts is_top (map port_declared root.ports) x
parts ms root is_top (i ∷ path, x) =
    flat_map (line_parts ms (i ∷ path) x) (lines_of (module_at ms root (i ∷ path)))
    ++ flat_map (outer_parts ms path i x) (lines_of (module_at ms root path))
