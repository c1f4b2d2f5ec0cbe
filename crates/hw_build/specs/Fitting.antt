-- Which elements fit one after another, so that what is built of them breaks no rule on names, widths and drivers.
--
-- An element fits after the elements before it: the names that it declares are new there, its driver and its blocks read
-- names that are declared there, and widths agree. So registers come before what reads them, and `InstanceWire`s before the
-- instances that drive them. Drivers are counted over all elements.
use Rattle.std.specs.Prelude.{◌≡◌, ◌+◌, ◌-◌, ◌*◌, ◌^◌, ◌<◌, ◌≤◌, ◌&&◌, ◌==◌, ◌∷◌, ◌++◌}
use Rattle.std.specs.Prelude.{ℕ, Bool, true, false, List, [], nat_le, bytes_eq, map, sum, count_by, not, IsTrue}
use Rattle.std.specs.List.{list_any, list_all, flat_map, AllByRecursion}
use Rattle.vlog_tree.specs.declared.tree.Atom.{Atom}
use Rattle.vlog_tree.specs.declared.tree.Atom.TheVariants.{Net, Part, Literal}
use Rattle.vlog_tree.specs.declared.tree.BinaryOp.{BinaryOp}
use Rattle.vlog_tree.specs.declared.tree.BinaryOp.TheVariants.{Plus, Minus, Times, Divide, Remainder, And, Or, Xor, ShiftLeft, ShiftRight, Equals, Differs, Less}
use Rattle.vlog_tree.specs.declared.tree.Value.{Value}
use Rattle.vlog_tree.specs.declared.tree.Value.TheVariants.{Plain, Invert, Binary, Choose, Concat, Repeat, Cell}
use Rattle.vlog_tree.specs.declared.tree.Step.{Step}
use Rattle.vlog_tree.specs.declared.tree.Step.TheVariants.{If, Else, End, NonblockingAssign, MemoryAssign}
use Rattle.vlog_tree.specs.declared.tree.Connection.{Connection}
use Rattle.vlog_tree.specs.declared.tree.Item.TheVariants.{Instance as InstanceLine}
use Rattle.vlog_tree.specs.declared.table.Declaration.{Declaration}
use Rattle.vlog_tree.specs.Form.{ModuleTree}
use Rattle.vlog_tree.specs.Names.{is_among}
use Rattle.vlog_tree.specs.Table.{Name, NameUse, port_declared, items_declared, bits_of, ports_of, is_module_name, is_doubled_name, module_declared, times_in}
use Rattle.vlog_tree.specs.V2.{value_uses, step_uses, connection_uses, all_connected}
use Rattle.vlog_tree.specs.V3.{is_width, is_cell_count, atom_bits, is_divisor}
use Rattle.vlog_tree.specs.V4.{line_driven, step_assigns}
use Rattle.vlog_module_laws.specs.Larger.{IsRightBeside}
use Rattle.hw_build.specs.Elements.{Element, Input, Output, Outlet, Wire, InstanceWire, Register, Memory, Block, Instance, element_ports, element_items, empty, built}

-- what an element declares
abbrev pub declarations : Element → List Declaration
declarations e = map port_declared (element_ports e) ++ items_declared (element_items e)

-- the declarations before the first element: the clock and the reset
abbrev pub first_table : List Declaration
first_table = map port_declared (empty []).ports

-- what is declared after more elements, the last one first
abbrev pub table_after : List Declaration → List Element → List Declaration
table_after t [] = t
table_after t (e ∷ elements) = table_after (declarations e ++ t) elements

abbrev pub is_new : List Declaration → Name → Bool
is_new t x = not (list_any (λ (d : Declaration). bytes_eq d.name x) t)

-- none of these uses of names breaks a rule
abbrev pub are_kept : List NameUse → Bool
are_kept uses = list_all (λ (u : NameUse). not u.1) uses

abbrev pub child_ports : List ModuleTree → Name → List Declaration
child_ports ms k = map port_declared (ports_of ms k)

-- the rule on names, for an element beside what is declared
abbrev pub has_fitting_names : List ModuleTree → List Declaration → Element → Bool
has_fitting_names ms t (Input w x) = is_new t x
has_fitting_names ms t (Output w x v) = is_new t x && are_kept (value_uses t v)
has_fitting_names ms t (Outlet w x) = is_new t x
has_fitting_names ms t (Wire w x v) = is_new t x && are_kept (value_uses t v)
has_fitting_names ms t (InstanceWire w x) = is_new t x
has_fitting_names ms t (Register w x) = is_new t x
has_fitting_names ms t (Memory w x n) = is_new t x
has_fitting_names ms t (Block b) = are_kept (flat_map (step_uses t) b)
has_fitting_names ms t (Instance k i connections) =
    is_new t i && is_module_name ms k && all_connected (child_ports ms k) connections && are_kept (flat_map (connection_uses (child_ports ms k) t) connections)

abbrev pub have_fitting_names : List ModuleTree → List Declaration → List Element → Bool
have_fitting_names ms t [] = true
have_fitting_names ms t (e ∷ elements) = has_fitting_names ms t e && have_fitting_names ms (declarations e ++ t) elements

-- an atom of any width
abbrev pub AtomFits : List Declaration → Atom → Type 0
AtomFits t (Net x) = Unit {0}
AtomFits t (Part x high low) = (2 ≤ bits_of t x) × (low ≤ high) × (high < bits_of t x)
AtomFits t (Literal w n) = IsTrue (is_width w) × (n < 2 ^ w)

-- an atom of w bits, which are a width
abbrev pub AtomHas : List Declaration → ℕ → Atom → Type 0
AtomHas t w (Net x) = bits_of t x ≡ w
AtomHas t w (Part x high low) = (2 ≤ bits_of t x) × (low ≤ high) × (high < bits_of t x) × (high + 1 - low ≡ w)
AtomHas t w (Literal v n) = (v ≡ w) × (n < 2 ^ v)

-- the operands of an operator with a result of w bits
abbrev pub OpFits : List Declaration → ℕ → BinaryOp → Atom → Atom → Type 0
OpFits t w Plus a b = AtomHas t w a × AtomHas t w b
OpFits t w Minus a b = AtomHas t w a × AtomHas t w b
OpFits t w Times a b = AtomHas t w a × AtomHas t w b
OpFits t w Divide a b = AtomHas t w a × AtomHas t w b × IsTrue (is_divisor b)
OpFits t w Remainder a b = AtomHas t w a × AtomHas t w b × IsTrue (is_divisor b)
OpFits t w And a b = AtomHas t w a × AtomHas t w b
OpFits t w Or a b = AtomHas t w a × AtomHas t w b
OpFits t w Xor a b = AtomHas t w a × AtomHas t w b
OpFits t w ShiftLeft a b = AtomHas t w a × AtomFits t b
OpFits t w ShiftRight a b = AtomHas t w a × AtomFits t b
OpFits t w Equals a b = (w ≡ 1) × AtomFits t a × AtomHas t (atom_bits t a) b
OpFits t w Differs a b = (w ≡ 1) × AtomFits t a × AtomHas t (atom_bits t a) b
OpFits t w Less a b = (w ≡ 1) × AtomFits t a × AtomHas t (atom_bits t a) b

-- a driver of w bits
abbrev pub ValueFits : List Declaration → ℕ → Value → Type 0
ValueFits t w (Plain a) = AtomHas t w a
ValueFits t w (Invert a) = AtomHas t w a
ValueFits t w (Binary a op b) = OpFits t w op a b
ValueFits t w (Choose c a b) = AtomHas t 1 c × AtomHas t w a × AtomHas t w b
ValueFits t w (Concat atoms) = AllByRecursion (AtomFits t) atoms × (sum (map (atom_bits t) atoms) ≡ w)
ValueFits t w (Repeat n a) = AtomFits t a × (n * atom_bits t a ≡ w)
ValueFits t w (Cell m x) = bits_of t m ≡ w

abbrev pub StepFits : List Declaration → Step → Type 0
StepFits t (If c) = bits_of t c ≡ 1
StepFits t Else = Unit {0}
StepFits t End = Unit {0}
StepFits t (NonblockingAssign x a) = AtomHas t (bits_of t x) a
StepFits t (MemoryAssign m x a) = AtomHas t (bits_of t m) a

-- the rule on widths, for an element whose names fit
abbrev pub HasFittingWidths : List ModuleTree → List Declaration → Element → Type 0
HasFittingWidths ms t (Input w x) = IsTrue (is_width w)
HasFittingWidths ms t (Output w x v) = IsTrue (is_width w) × ValueFits t w v
HasFittingWidths ms t (Outlet w x) = IsTrue (is_width w)
HasFittingWidths ms t (Wire w x v) = IsTrue (is_width w) × ValueFits t w v
HasFittingWidths ms t (InstanceWire w x) = IsTrue (is_width w)
HasFittingWidths ms t (Register w x) = IsTrue (is_width w)
HasFittingWidths ms t (Memory w x n) = IsTrue (is_width w) × IsTrue (is_cell_count n)
HasFittingWidths ms t (Block b) = AllByRecursion (StepFits t) b
HasFittingWidths ms t (Instance k i connections) = AllByRecursion (λ (l : Connection). bits_of (child_ports ms k) l.port ≡ bits_of t l.net) connections

abbrev pub HaveFittingWidths : List ModuleTree → List Declaration → List Element → Type 0
HaveFittingWidths ms t [] = Unit {0}
HaveFittingWidths ms t (e ∷ elements) = HasFittingWidths ms t e × HaveFittingWidths ms (declarations e ++ t) elements

-- the nets that instances are to drive
abbrev pub link_names : Element → List Name
link_names (Outlet w x) = x ∷ []
link_names (InstanceWire w x) = x ∷ []
link_names (Input w x) = []
link_names (Output w x v) = []
link_names (Wire w x v) = []
link_names (Register w x) = []
link_names (Memory w x n) = []
link_names (Block b) = []
link_names (Instance k i connections) = []

-- the nets that an instance drives
abbrev pub instance_driven : List ModuleTree → Element → List Name
instance_driven ms (Instance k i connections) = line_driven ms (InstanceLine k i connections)
instance_driven ms (Input w x) = []
instance_driven ms (Output w x v) = []
instance_driven ms (Outlet w x) = []
instance_driven ms (Wire w x v) = []
instance_driven ms (InstanceWire w x) = []
instance_driven ms (Register w x) = []
instance_driven ms (Memory w x n) = []
instance_driven ms (Block b) = []

-- the registers and the memories
abbrev pub stored_names : Element → List Name
stored_names (Register w x) = x ∷ []
stored_names (Memory w x n) = x ∷ []
stored_names (Input w x) = []
stored_names (Output w x v) = []
stored_names (Outlet w x) = []
stored_names (Wire w x v) = []
stored_names (InstanceWire w x) = []
stored_names (Block b) = []
stored_names (Instance k i connections) = []

-- whether an element is a block that assigns a name
abbrev pub assigns : Name → Element → Bool
assigns x (Block b) = list_any (step_assigns x) b
assigns x (Input w y) = false
assigns x (Output w y v) = false
assigns x (Outlet w y) = false
assigns x (Wire w y v) = false
assigns x (InstanceWire w y) = false
assigns x (Register w y) = false
assigns x (Memory w y n) = false
assigns x (Instance k i connections) = false

-- instances drive each `Outlet` and each `InstanceWire` once, and nothing else
abbrev pub drive_links_once : List ModuleTree → List Element → Bool
drive_links_once ms elements =
    list_all (λ x. times_in (flat_map (instance_driven ms) elements) x == 1) (flat_map link_names elements)
    && list_all (is_among (flat_map link_names elements)) (flat_map (instance_driven ms) elements)

-- no two blocks assign one register or one memory
abbrev pub have_own_blocks : List Element → Bool
have_own_blocks elements = list_all (λ x. nat_le (count_by (assigns x) elements) 1) (flat_map stored_names elements)

-- elements that fit one after another, beside modules that include those of their instances
pub record AreFitting (ms : List ModuleTree) (elements : List Element) : Type 0 where
  pub names : IsTrue (have_fitting_names ms first_table elements)
  pub widths : HaveFittingWidths ms first_table elements
  pub links : IsTrue (drive_links_once ms elements)
  pub blocks : IsTrue (have_own_blocks elements)

-- what is built of them is right in names, widths and drivers
abbrev pub BuiltIsRight : Type 0
BuiltIsRight =
    (ms : List ModuleTree) (name : Name) (elements : List Element) → is_doubled_name (map module_declared ms) name ≡ false → AreFitting ms elements → IsRightBeside ms (built name elements)
