-- What has the form of a module.
use Rattle.std.specs.Prelude.{ℕ, ◌&&◌, nat_le, Bool, true, false, List, [], ◌∷◌, length, IsTrue}
use Rattle.std.specs.List.{list_all}
use Rattle.vlog_tree.specs.Names.{is_name}
use Rattle.vlog_tree.specs.declared.tree.Atom.{Atom}
use Rattle.vlog_tree.specs.declared.tree.Atom.TheVariants.{Net, Part, Literal}
use Rattle.vlog_tree.specs.declared.tree.Value.{Value}
use Rattle.vlog_tree.specs.declared.tree.Value.TheVariants.{Plain, Invert, Binary, Choose, Concat, Repeat, Cell}
use Rattle.vlog_tree.specs.declared.tree.Step.{Step}
use Rattle.vlog_tree.specs.declared.tree.Step.TheVariants.{If, Else, End, NonblockingAssign, MemoryAssign}
use Rattle.vlog_tree.specs.declared.tree.Connection.{Connection}
use Rattle.vlog_tree.specs.declared.tree.Item.{Item}
use Rattle.vlog_tree.specs.declared.tree.Item.TheVariants.{Wire, Reg, Memory, Assign, Always, Instance}
use Rattle.vlog_tree.specs.declared.tree.PortDecl.{PortDecl}
use Rattle.vlog_tree.specs.declared.tree.Direction.{Direction}
use Rattle.vlog_tree.specs.declared.tree.Direction.TheVariants.{Input, Output}

-- a module without where it lies in memory
pub record ModuleTree : Type 0 where
  pub name : List ℕ
  pub ports : List PortDecl
  pub items : List Item

-- each `If` has its `End`, with at most one `Else` between; of each part that is open, the innermost first, whether
-- it is an `Else`
abbrev pub nested : List Bool → List Step → Bool
nested parts (If c ∷ steps) = nested (false ∷ parts) steps
nested parts (NonblockingAssign x a ∷ steps) = nested parts steps
nested parts (MemoryAssign m x a ∷ steps) = nested parts steps
nested [] (Else ∷ steps) = false
nested (false ∷ parts) (Else ∷ steps) = nested (true ∷ parts) steps
nested (true ∷ parts) (Else ∷ steps) = false
nested [] (End ∷ steps) = false
nested (b ∷ parts) (End ∷ steps) = nested parts steps
nested [] [] = true
nested (b ∷ parts) [] = false

abbrev pub is_atom : Atom → Bool
is_atom (Net x) = is_name x
is_atom (Part x high low) = is_name x
is_atom (Literal w n) = true

abbrev pub is_value : Value → Bool
is_value (Plain a) = is_atom a
is_value (Invert a) = is_atom a
is_value (Binary a op b) = is_atom a && is_atom b
is_value (Choose c a b) = is_atom c && is_atom a && is_atom b
is_value (Concat atoms) = nat_le 2 (length atoms) && list_all is_atom atoms
is_value (Repeat n a) = is_atom a
is_value (Cell m x) = is_name m && is_name x

abbrev pub is_step : Step → Bool
is_step (If c) = is_name c
is_step Else = true
is_step End = true
is_step (NonblockingAssign x a) = is_name x && is_atom a
is_step (MemoryAssign m x a) = is_name m && is_name x && is_atom a

abbrev pub is_connection : Connection → Bool
is_connection l = is_name l.port && is_name l.net

-- no width and no memory is empty: a range is written by its highest number
abbrev pub is_item : Item → Bool
is_item (Wire w x) = nat_le 1 w && is_name x
is_item (Reg w x) = nat_le 1 w && is_name x
is_item (Memory w x n) = nat_le 1 w && is_name x && nat_le 1 n
is_item (Assign x e) = is_name x && is_value e
is_item (Always b) = nested [] b && list_all is_step b
is_item (Instance m i connections) = is_name m && is_name i && nat_le 1 (length connections) && list_all is_connection connections

abbrev pub is_input : Direction → Bool
is_input Input = true
is_input Output = false

abbrev pub is_port : PortDecl → Bool
is_port p = nat_le 1 p.width && is_name p.name

-- names are names, each list has the number of parts that the grammar asks for, and the steps of each block are nested
abbrev pub is_module : ModuleTree → Bool
is_module m = is_name m.name && nat_le 1 (length m.ports) && list_all is_port m.ports && list_all is_item m.items

unfoldable pub IsModule : ModuleTree → Type 0
IsModule m = IsTrue (is_module m)
