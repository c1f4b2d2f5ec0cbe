-- How often a name is driven.
use Rattle.std.specs.Prelude.{ℕ, Bool, false, List, [], ◌∷◌, nat_le, ◌==◌, if◌then◌else◌, bytes_eq, map, count_by, not}
use Rattle.std.specs.List.{list_any, flat_map}
use Rattle.vlog_tree.specs.declared.tree.Step.{Step}
use Rattle.vlog_tree.specs.declared.tree.Step.TheVariants.{If, Else, End, NonblockingAssign, MemoryAssign}
use Rattle.vlog_tree.specs.declared.tree.Connection.{Connection}
use Rattle.vlog_tree.specs.declared.tree.Item.{Item}
use Rattle.vlog_tree.specs.declared.tree.Item.TheVariants.{Wire, Reg, Memory, Assign, Always, Instance}
use Rattle.vlog_tree.specs.declared.table.Declaration.{Declaration}
use Rattle.vlog_tree.specs.declared.table.NetKind.{NetKind}
use Rattle.vlog_tree.specs.declared.table.NetKind.TheVariants.{Unknown, Input, Output, WireNet, Register, MemoryArray, ChildInstance}
use Rattle.vlog_tree.specs.Form.{ModuleTree}
use Rattle.vlog_tree.specs.Table.{Name, NameUse, declared, port_declared, net_kind_of, net_kind_is_input, ports_of, times_in}

-- a connection to an output drives its net
unfoldable pub connection_driven : List Declaration → Connection → List Name
connection_driven ports l = if net_kind_is_input (net_kind_of ports l.port) then [] else l.net ∷ []

-- the nets that a line drives: by an assign, or by the outputs of an instance
abbrev pub line_driven : List ModuleTree → Item → List Name
line_driven ms (Assign y e) = y ∷ []
line_driven ms (Instance m i connections) = flat_map (connection_driven (map port_declared (ports_of ms m))) connections
line_driven ms (Wire w y) = []
line_driven ms (Reg w y) = []
line_driven ms (Memory w y n) = []
line_driven ms (Always b) = []

-- how often a net is driven
abbrev pub drives : List ModuleTree → List Item → Name → ℕ
drives ms items x = times_in (flat_map (line_driven ms) items) x

abbrev pub step_assigns : Name → Step → Bool
step_assigns x (If c) = false
step_assigns x Else = false
step_assigns x End = false
step_assigns x (NonblockingAssign y a) = bytes_eq y x
step_assigns x (MemoryAssign m y a) = bytes_eq m x

abbrev pub is_block_of : Name → Item → Bool
is_block_of x (Always b) = list_any (step_assigns x) b
is_block_of x (Wire w y) = false
is_block_of x (Reg w y) = false
is_block_of x (Memory w y n) = false
is_block_of x (Assign y e) = false
is_block_of x (Instance m i connections) = false

-- by how often a name is driven, and in how many blocks it is assigned
abbrev pub breaks_driving : ℕ → ℕ → NetKind → Bool
breaks_driving driven blocks Input = not (driven == 0)
breaks_driving driven blocks Output = not (driven == 1)
breaks_driving driven blocks WireNet = not (driven == 1)
breaks_driving driven blocks Register = nat_le 2 blocks
breaks_driving driven blocks MemoryArray = nat_le 2 blocks
breaks_driving driven blocks ChildInstance = false
breaks_driving driven blocks Unknown = false

unfoldable pub driving_use : List ModuleTree → List Item → Declaration → NameUse
driving_use ms items d = (d.name, breaks_driving (drives ms items d.name) (count_by (is_block_of d.name) items) d.net_kind)

unfoldable pub module_drives : List ModuleTree → ModuleTree → List NameUse
module_drives ms m = map (driving_use ms m.items) (declared m)

-- the declared names, in the order of the text
abbrev pub v4_uses : List ModuleTree → List NameUse
v4_uses ms = flat_map (module_drives ms) ms
