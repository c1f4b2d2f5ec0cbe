-- When elements with instances and the nets that they drive fit: each after those before it, every name once, every such net driven once.
--
-- An instance of a module is connected to nets that are declared before it: its inputs to nets that can be read, its outputs to
-- `InstanceWire`s and `Outlet`s, each with the width of its port.
use Rattle.std.specs.Prelude.{◌≡◌, ℕ, ◌<◌, true, List, [], ◌∷◌, ◌++◌, Some, map, IsTrue}
use Rattle.std.specs.List.{list_all, flat_map, AllByRecursion}
use Rattle.vlog_tree.specs.declared.tree.Connection.{Connection}
use Rattle.vlog_tree.specs.declared.tree.Direction.TheVariants.{Input as Inward, Output as Outward}
use Rattle.vlog_tree.specs.declared.tree.PortDecl.{PortDecl}
use Rattle.vlog_tree.specs.Form.{ModuleTree, IsModule}
use Rattle.tapa_base.specs.Lists.{Has}
use Rattle.vlog_tree.specs.Labels.{rst}
use Rattle.vlog_tree.specs.Names.{is_name}
use Rattle.vlog_tree.specs.Table.{Name, clk, module_named, times_in}
use Rattle.vlog_tree.specs.V3.{is_width}
use Rattle.hw_build.specs.Elements.{Element, Input, Output, Outlet, Wire, InstanceWire, Register, Memory, Block, Instance}
use Rattle.hw_build.specs.Fitting.{link_names, instance_driven, have_own_blocks, AreFitting}
use Rattle.hw_build.specs.Forms.{is_element}
use Rattle.hw_build.specs.Fits.{declared_names, AreOnce, IsAmong}
use Rattle.hw_build.specs.Scope.{each, IsNet, FitsAfter, FitInOrder}

-- the nets that an instance may drive, with their widths
abbrev pub open_nets : Element → List (Name × ℕ)
open_nets (Outlet w x) = (x, w) ∷ []
open_nets (InstanceWire w x) = (x, w) ∷ []
open_nets (Input w x) = []
open_nets (Output w x v) = []
open_nets (Wire w x v) = []
open_nets (Register w x) = []
open_nets (Memory w x n) = []
open_nets (Block b) = []
open_nets (Instance k i connections) = []

abbrev pub IsOpen : List Element → Name → ℕ → Type 0
IsOpen before x w = Has {N = Name × ℕ} (flat_map open_nets before) (x, w)

abbrev pub input_port : ℕ → Name → PortDecl
input_port w x = record { direction = Inward; width = w; name = x }

abbrev pub output_port : ℕ → Name → PortDecl
output_port w x = record { direction = Outward; width = w; name = x }

abbrev pub port_names : List PortDecl → List Name
port_names ports = map (λ (p : PortDecl). p.name) ports

abbrev pub joined_ports : List Connection → List Name
joined_ports connections = map (λ (l : Connection). l.port) connections

-- a connection of a port of a module: of its clock, of an input, of an output
pub data IsJoin (before : List Element) (ports : List PortDecl) (l : Connection) : Type 0 where
  ToClock : l.port ≡ clk → l.net ≡ clk → Has ports (input_port 1 l.port) → IsJoin before ports l
  ToInput : (w : ℕ) → Has ports (input_port w l.port) → IsNet before l.net w → IsJoin before ports l
  FromOutput : (w : ℕ) → Has ports (output_port w l.port) → IsOpen before l.net w → IsJoin before ports l

-- an instance of a module of this name, each of whose ports has one connection
pub record IsJoined (ms : List ModuleTree) (before : List Element) (k : Name) (connections : List Connection) : Type 0 where
  pub child : ModuleTree
  pub named : module_named ms k ≡ Some child
  pub same : (x : Name) → times_in (joined_ports connections) x ≡ times_in (port_names child.ports) x
  pub joins : AllByRecursion (IsJoin before child.ports) connections

-- an element after others
abbrev pub StandsAfter : List ModuleTree → List Element → Element → Type 0
StandsAfter ms before (Outlet w x) = IsTrue (is_width w)
StandsAfter ms before (InstanceWire w x) = IsTrue (is_width w)
StandsAfter ms before (Instance k i connections) = IsJoined ms before k connections
StandsAfter ms before (Input w x) = FitsAfter before (Input w x)
StandsAfter ms before (Output w x v) = FitsAfter before (Output w x v)
StandsAfter ms before (Wire w x v) = FitsAfter before (Wire w x v)
StandsAfter ms before (Register w x) = FitsAfter before (Register w x)
StandsAfter ms before (Memory w x n) = FitsAfter before (Memory w x n)
StandsAfter ms before (Block b) = FitsAfter before (Block b)

abbrev pub StandInOrder : List ModuleTree → List Element → List Element → Type 0
StandInOrder ms before [] = Unit {0}
StandInOrder ms before (e ∷ elements) = StandsAfter ms before e × StandInOrder ms (before ++ e ∷ []) elements

-- no module has two ports of one name
abbrev pub PortsAreOnce : List ModuleTree → Type 0
PortsAreOnce ms = (m : ModuleTree) → Has ms m → AreOnce (port_names m.ports)

pub record FitTogether (ms : List ModuleTree) (elements : List Element) : Type 0 where
  pub ports : PortsAreOnce ms
  pub order : StandInOrder ms [] elements
  pub names : AreOnce (clk ∷ rst ∷ flat_map declared_names elements)
  pub blocks : IsTrue (have_own_blocks elements)
  -- no net is driven by two outputs, and each `InstanceWire` and each `Outlet` by one
  pub driven : AreOnce (flat_map (instance_driven ms) elements)
  pub all_driven : (x : Name) → Has (flat_map link_names elements) x → Has (flat_map (instance_driven ms) elements) x

abbrev pub TogetherIsFitting : Type 0
TogetherIsFitting = (ms : List ModuleTree) (elements : List Element) → FitTogether ms elements → AreFitting ms elements

-- an instance has the form of one
abbrev pub JoinedHasForm : Type 0
JoinedHasForm =
    (ms : List ModuleTree) (before : List Element) (k i : Name) (connections : List Connection) → ((m : ModuleTree) → Has ms m → IsModule m)
    → list_all is_name (flat_map declared_names before) ≡ true
    → is_name i ≡ true → IsJoined ms before k connections → is_element (Instance k i connections) ≡ true

-- what fits in order without instances fits in order with them
abbrev pub AloneStands : Type 0
AloneStands = (ms : List ModuleTree) (before elements : List Element) → FitInOrder before elements → StandInOrder ms before elements

-- what fits after some elements fits after more
abbrev pub StandsBehindMore : Type 0
StandsBehindMore = (ms : List ModuleTree) (some all : List Element) → IsAmong some all → (elements : List Element) → StandInOrder ms some elements → StandInOrder ms all elements

-- parts fit one after another
abbrev pub PartsStand : Type 0
PartsStand = (ms : List ModuleTree) (before xs ys : List Element) → StandInOrder ms before xs → StandInOrder ms (before ++ xs) ys → StandInOrder ms before (xs ++ ys)

-- and so do parts of which none looks at another
abbrev pub EachPartStands : Type 0
EachPartStands = (ms : List ModuleTree) (before : List Element) (f : ℕ → List Element) (n : ℕ) → ((k : ℕ) → k < n → StandInOrder ms before (f k)) → StandInOrder ms before (each f n)
