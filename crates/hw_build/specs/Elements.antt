-- The elements of a module that is made, and the module that they are.
use Rattle.std.specs.Prelude.{ℕ, List, [], ◌∷◌, ◌++◌}
use Rattle.vlog_tree.specs.declared.tree.Atom.{Atom}
use Rattle.vlog_tree.specs.declared.tree.Value.{Value}
use Rattle.vlog_tree.specs.declared.tree.Step.{Step}
use Rattle.vlog_tree.specs.declared.tree.Step.TheVariants.{If, Else, End, NonblockingAssign, MemoryAssign}
use Rattle.vlog_tree.specs.declared.tree.Connection.{Connection}
use Rattle.vlog_tree.specs.declared.tree.Direction.TheVariants.{Input as Inward, Output as Outward}
use Rattle.vlog_tree.specs.declared.tree.Item.{Item}
use Rattle.vlog_tree.specs.declared.tree.Item.TheVariants.{Wire as WireLine, Reg as RegisterLine, Memory as MemoryLine, Assign as AssignLine, Always as BlockLine, Instance as InstanceLine}
use Rattle.vlog_tree.specs.declared.tree.PortDecl.{PortDecl}
use Rattle.vlog_tree.specs.Form.{ModuleTree}
use Rattle.vlog_tree.specs.Table.{Name, clk}
use Rattle.vlog_tree.specs.Labels.{rst}

-- An output and a wire come with their drivers; `Outlet` is an output and `InstanceWire` a wire that an instance drives. A register
-- and a memory are assigned in a block of their own.
pub data Element : Type 0 where
  Input : ℕ → Name → Element
  Output : ℕ → Name → Value → Element
  Outlet : ℕ → Name → Element
  Wire : ℕ → Name → Value → Element
  InstanceWire : ℕ → Name → Element
  Register : ℕ → Name → Element
  Memory : ℕ → Name → ℕ → Element
  Block : List Step → Element
  Instance : Name → Name → List Connection → Element

abbrev pub element_ports : Element → List PortDecl
element_ports (Input w x) = record { direction = Inward; width = w; name = x } ∷ []
element_ports (Output w x v) = record { direction = Outward; width = w; name = x } ∷ []
element_ports (Outlet w x) = record { direction = Outward; width = w; name = x } ∷ []
element_ports (Wire w x v) = []
element_ports (InstanceWire w x) = []
element_ports (Register w x) = []
element_ports (Memory w x n) = []
element_ports (Block b) = []
element_ports (Instance k i connections) = []

abbrev pub element_items : Element → List Item
element_items (Input w x) = []
element_items (Output w x v) = AssignLine x v ∷ []
element_items (Outlet w x) = []
element_items (Wire w x v) = WireLine w x ∷ AssignLine x v ∷ []
element_items (InstanceWire w x) = WireLine w x ∷ []
element_items (Register w x) = RegisterLine w x ∷ []
element_items (Memory w x n) = MemoryLine w x n ∷ []
element_items (Block b) = BlockLine b ∷ []
element_items (Instance k i connections) = InstanceLine k i connections ∷ []

abbrev pub empty : Name → ModuleTree
empty name = record {
  name = name;
  ports = record { direction = Inward; width = 1; name = clk } ∷ record { direction = Inward; width = 1; name = rst } ∷ [];
  items = [];
}

abbrev pub with : ModuleTree → Element → ModuleTree
with m e = record { name = m.name; ports = m.ports ++ element_ports e; items = m.items ++ element_items e }

-- one element after another
abbrev pub with_all : ModuleTree → List Element → ModuleTree
with_all m [] = m
with_all m (e ∷ elements) = with_all (with m e) elements

-- the module of these elements
abbrev pub built : Name → List Element → ModuleTree
built name elements = with_all (empty name) elements

-- a register that takes a value in each cycle
abbrev pub copied : Name → Atom → List Step
copied x next = NonblockingAssign x next ∷ []

-- a register with a first value at reset
abbrev pub reset_or : Name → Atom → Atom → List Step
reset_or x first next = If rst ∷ NonblockingAssign x first ∷ Else ∷ NonblockingAssign x next ∷ End ∷ []

-- which else is changed in some cycles alone
abbrev pub reset_or_set : Name → Atom → Name → Atom → List Step
reset_or_set x first set next = If rst ∷ NonblockingAssign x first ∷ Else ∷ If set ∷ NonblockingAssign x next ∷ End ∷ End ∷ []

-- a memory with one write port
abbrev pub stored : Name → Name → Name → Atom → List Step
stored m write index value = If write ∷ MemoryAssign m index value ∷ End ∷ []
