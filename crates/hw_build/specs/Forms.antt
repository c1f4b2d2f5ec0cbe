-- Which elements have the form of parts of a module.
use Rattle.std.specs.Prelude.{◌≡◌, Bool, true, ◌&&◌, List, [], nat_le, length}
use Rattle.std.specs.List.{list_all}
use Rattle.vlog_tree.specs.Names.{is_name}
use Rattle.vlog_tree.specs.Form.{is_value, is_step, is_connection, nested, IsModule}
use Rattle.vlog_tree.specs.Table.{Name}
use Rattle.hw_build.specs.Elements.{Element, Input, Output, Outlet, Wire, InstanceWire, Register, Memory, Block, Instance, built}

abbrev pub is_element : Element → Bool
is_element (Input w x) = nat_le 1 w && is_name x
is_element (Output w x v) = nat_le 1 w && is_name x && is_value v
is_element (Outlet w x) = nat_le 1 w && is_name x
is_element (Wire w x v) = nat_le 1 w && is_name x && is_value v
is_element (InstanceWire w x) = nat_le 1 w && is_name x
is_element (Register w x) = nat_le 1 w && is_name x
is_element (Memory w x n) = nat_le 1 w && is_name x && nat_le 1 n
is_element (Block b) = nested [] b && list_all is_step b
is_element (Instance k i connections) = is_name k && is_name i && nat_le 1 (length connections) && list_all is_connection connections

-- what is built of such elements under a name has the form of a module
abbrev pub BuiltHasForm : Type 0
BuiltHasForm = (name : Name) (elements : List Element) → is_name name ≡ true → list_all is_element elements ≡ true → IsModule (built name elements)
