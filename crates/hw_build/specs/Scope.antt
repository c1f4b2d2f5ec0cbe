-- Elements of a module without instances, each fitting after those before it.
--
-- What an element reads is declared by elements before it, with the width that is asked for. So a list that grows with what
-- it is made of is looked at part by part, without a table of all that is declared.
use Rattle.std.specs.Prelude.{◌≡◌, ℕ, zero, suc, ◌+◌, ◌-◌, ◌*◌, ◌^◌, ◌<◌, ◌≤◌, Bool, true, List, [], ◌∷◌, ◌++◌, length, IsTrue}
use Rattle.std.specs.List.{flat_map, AllByRecursion}
use Rattle.vlog_tree.specs.declared.tree.Atom.{Atom}
use Rattle.vlog_tree.specs.declared.tree.Atom.TheVariants.{Net, Part, Literal}
use Rattle.vlog_tree.specs.declared.tree.BinaryOp.{BinaryOp}
use Rattle.vlog_tree.specs.declared.tree.BinaryOp.TheVariants.{Plus, Minus, Times, Divide, Remainder, And, Or, Xor, ShiftLeft, ShiftRight, Equals, Differs, Less}
use Rattle.vlog_tree.specs.declared.tree.Value.{Value}
use Rattle.vlog_tree.specs.declared.tree.Value.TheVariants.{Plain, Invert, Binary, Choose, Concat, Repeat, Cell}
use Rattle.vlog_tree.specs.declared.tree.Step.{Step}
use Rattle.vlog_tree.specs.declared.tree.Step.TheVariants.{If, Else, End, NonblockingAssign, MemoryAssign}
use Rattle.vlog_tree.specs.Form.{nested}
use Rattle.tapa_base.specs.Lists.{Has}
use Rattle.vlog_tree.specs.Labels.{rst}
use Rattle.vlog_tree.specs.Table.{Name}
use Rattle.vlog_tree.specs.V3.{is_width, is_cell_count, is_divisor}
use Rattle.hw_build.specs.Elements.{Element, Input, Output, Outlet, Wire, InstanceWire, Register, Memory, Block, Instance}

-- f 0, f 1 and so on, n of them
abbrev pub each : {A : Type 0} → (ℕ → List A) → ℕ → List A
each f zero = []
each f (suc n) = each f n ++ f n

-- the nets of an element that can be read, with their widths
abbrev pub readable : Element → List (Name × ℕ)
readable (Input w x) = (x, w) ∷ []
readable (Output w x v) = (x, w) ∷ []
readable (Outlet w x) = (x, w) ∷ []
readable (Wire w x v) = (x, w) ∷ []
readable (InstanceWire w x) = (x, w) ∷ []
readable (Register w x) = (x, w) ∷ []
readable (Memory w x n) = []
readable (Block b) = []
readable (Instance k i connections) = []

abbrev pub register_of : Element → List (Name × ℕ)
register_of (Register w x) = (x, w) ∷ []
register_of (Input w x) = []
register_of (Output w x v) = []
register_of (Outlet w x) = []
register_of (Wire w x v) = []
register_of (InstanceWire w x) = []
register_of (Memory w x n) = []
register_of (Block b) = []
register_of (Instance k i connections) = []

abbrev pub memory_of : Element → List (Name × ℕ)
memory_of (Memory w x n) = (x, w) ∷ []
memory_of (Input w x) = []
memory_of (Output w x v) = []
memory_of (Outlet w x) = []
memory_of (Wire w x v) = []
memory_of (InstanceWire w x) = []
memory_of (Register w x) = []
memory_of (Block b) = []
memory_of (Instance k i connections) = []

-- a net of this width, a register, a memory, among these elements; every module has its reset
abbrev pub IsNet : List Element → Name → ℕ → Type 0
IsNet before x w = Has {N = Name × ℕ} ((rst, 1) ∷ flat_map readable before) (x, w)

abbrev pub IsRegister : List Element → Name → ℕ → Type 0
IsRegister before x w = Has {N = Name × ℕ} (flat_map register_of before) (x, w)

abbrev pub IsMemory : List Element → Name → ℕ → Type 0
IsMemory before x w = Has {N = Name × ℕ} (flat_map memory_of before) (x, w)

-- an atom of w bits
abbrev pub AtomIs : List Element → ℕ → Atom → Type 0
AtomIs before w (Net x) = IsNet before x w
AtomIs before w (Part x high low) = (v : ℕ) × IsNet before x v × (2 ≤ v) × (low ≤ high) × (high < v) × (high + 1 - low ≡ w)
AtomIs before w (Literal v n) = (v ≡ w) × (n < 2 ^ v)

-- an atom of some width
abbrev pub SomeAtom : List Element → Atom → Type 0
SomeAtom before a = (v : ℕ) × IsTrue (is_width v) × AtomIs before v a

-- two atoms of one width
abbrev pub SameAtoms : List Element → Atom → Atom → Type 0
SameAtoms before a b = (v : ℕ) × IsTrue (is_width v) × AtomIs before v a × AtomIs before v b

abbrev pub OpIs : List Element → ℕ → BinaryOp → Atom → Atom → Type 0
OpIs before w Plus a b = AtomIs before w a × AtomIs before w b
OpIs before w Minus a b = AtomIs before w a × AtomIs before w b
OpIs before w Times a b = AtomIs before w a × AtomIs before w b
OpIs before w Divide a b = AtomIs before w a × AtomIs before w b × IsTrue (is_divisor b)
OpIs before w Remainder a b = AtomIs before w a × AtomIs before w b × IsTrue (is_divisor b)
OpIs before w And a b = AtomIs before w a × AtomIs before w b
OpIs before w Or a b = AtomIs before w a × AtomIs before w b
OpIs before w Xor a b = AtomIs before w a × AtomIs before w b
OpIs before w ShiftLeft a b = AtomIs before w a × SomeAtom before b
OpIs before w ShiftRight a b = AtomIs before w a × SomeAtom before b
OpIs before w Equals a b = (w ≡ 1) × SameAtoms before a b
OpIs before w Differs a b = (w ≡ 1) × SameAtoms before a b
OpIs before w Less a b = (w ≡ 1) × SameAtoms before a b

-- atoms of w bits together
abbrev pub PartsAre : List Element → List Atom → ℕ → Type 0
PartsAre before [] w = 0 ≡ w
PartsAre before (a ∷ atoms) w = (v : ℕ) × (rest : ℕ) × IsTrue (is_width v) × AtomIs before v a × PartsAre before atoms rest × (v + rest ≡ w)

-- a driver of w bits
abbrev pub ValueIs : List Element → ℕ → Value → Type 0
ValueIs before w (Plain a) = AtomIs before w a
ValueIs before w (Invert a) = AtomIs before w a
ValueIs before w (Binary a op b) = OpIs before w op a b
ValueIs before w (Choose c a b) = AtomIs before 1 c × AtomIs before w a × AtomIs before w b
ValueIs before w (Concat atoms) = (2 ≤ length atoms) × PartsAre before atoms w
ValueIs before w (Repeat n a) = (v : ℕ) × IsTrue (is_width v) × AtomIs before v a × (n * v ≡ w)
ValueIs before w (Cell m x) = IsMemory before m w × ((v : ℕ) × IsNet before x v)

-- a step of a block that assigns x and nothing else
abbrev pub StepIs : List Element → Name → Step → Type 0
StepIs before x (If c) = IsNet before c 1
StepIs before x Else = Unit {0}
StepIs before x End = Unit {0}
StepIs before x (NonblockingAssign y a) = (y ≡ x) × ((w : ℕ) × IsRegister before y w × AtomIs before w a)
StepIs before x (MemoryAssign m i a) = (m ≡ x) × ((w : ℕ) × IsMemory before m w × ((v : ℕ) × IsNet before i v) × AtomIs before w a)

-- what a block assigns, by its first assignment
abbrev pub first_assigned : List Step → List Name
first_assigned [] = []
first_assigned (If c ∷ steps) = first_assigned steps
first_assigned (Else ∷ steps) = first_assigned steps
first_assigned (End ∷ steps) = first_assigned steps
first_assigned (NonblockingAssign x a ∷ steps) = x ∷ []
first_assigned (MemoryAssign m i a ∷ steps) = m ∷ []

abbrev pub IsBlockOf : List Element → List Step → List Name → Type 0
IsBlockOf before b [] = ⊥
IsBlockOf before b (x ∷ xs) = IsTrue (nested [] b) × AllByRecursion (StepIs before x) b

-- an element after others
abbrev pub FitsAfter : List Element → Element → Type 0
FitsAfter before (Input w x) = IsTrue (is_width w)
FitsAfter before (Output w x v) = IsTrue (is_width w) × ValueIs before w v
FitsAfter before (Outlet w x) = ⊥
FitsAfter before (Wire w x v) = IsTrue (is_width w) × ValueIs before w v
FitsAfter before (InstanceWire w x) = ⊥
FitsAfter before (Register w x) = IsTrue (is_width w)
FitsAfter before (Memory w x n) = IsTrue (is_width w) × IsTrue (is_cell_count n)
FitsAfter before (Block b) = IsBlockOf before b (first_assigned b)
FitsAfter before (Instance k i connections) = ⊥

abbrev pub FitInOrder : List Element → List Element → Type 0
FitInOrder before [] = Unit {0}
FitInOrder before (e ∷ elements) = FitsAfter before e × FitInOrder (before ++ e ∷ []) elements
