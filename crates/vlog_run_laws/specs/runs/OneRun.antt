-- What runs of a design begin with, what its inputs give, and what two runs have in common.
use Rattle.std.specs.Prelude.{◌≡◌, ℕ, ◌<◌, List, [], Some, false, IsTrue}
use Rattle.std.specs.List.{AllByRecursion}
use Rattle.vlog_tree.specs.declared.tree.Item.{Item}
use Rattle.vlog_tree.specs.declared.tree.Item.TheVariants.{Wire, Reg, Memory, Assign, Always, Instance}
use Rattle.vlog_tree.specs.declared.table.NetKind.TheVariants.{Input}
use Rattle.vlog_tree.specs.Form.{ModuleTree}
use Rattle.vlog_tree.specs.Table.{Name, is_clk, declared, net_kind_of, net_kind_is_read}
use Rattle.vlog_tree.specs.Cycle.{Cycle, Path, module_at, PowersUp, Runs}
use Rattle.vlog_tree.specs.Environment.{Environment, RunsIn}

-- the register or the memory of a line has the same numbers in both
abbrev pub SameHeld : Cycle → Cycle → Item → Type 0
SameHeld c d (Reg w x) = c.net x ≡ d.net x
SameHeld c d (Memory w m n) = (a : ℕ) → a < n → c.cell m a ≡ d.cell m a
SameHeld c d (Wire w x) = Unit {0}
SameHeld c d (Assign x e) = Unit {0}
SameHeld c d (Always b) = Unit {0}
SameHeld c d (Instance m i connections) = Unit {0}

-- numbers that the registers and memories of each module in a design can hold at power-up
abbrev pub FitsPowerUp : List ModuleTree → ModuleTree → (Path → Cycle) → Type 0
FitsPowerUp ms top contents = (path : Path) (m : ModuleTree) → module_at ms top path ≡ Some m → AllByRecursion (PowersUp (contents path)) m.items

-- in cycle 0 registers and memories hold these numbers
abbrev pub BeginsWith : List ModuleTree → ModuleTree → (Path → Cycle) → (ℕ → Path → Cycle) → Type 0
BeginsWith ms top contents nets = (path : Path) (m : ModuleTree) → module_at ms top path ≡ Some m → AllByRecursion (SameHeld (nets 0 path) (contents path)) m.items

-- the top's inputs have these numbers in each cycle
abbrev pub TakesInputs : ModuleTree → (ℕ → Name → ℕ) → (ℕ → Path → Cycle) → Type 0
TakesInputs top inputs nets = (n : ℕ) (x : Name) → net_kind_of (declared top) x ≡ Input → (nets n []).net x ≡ inputs n x

-- In each module of the design the declared nets have the same numbers in both, and so have the memories' cells. The clock
-- is left out: no line reads it.
pub record IsSameRun (ms : List ModuleTree) (top : ModuleTree) (one two : ℕ → Path → Cycle) : Type 0 where
  pub nets : (n : ℕ) (path : Path) (m : ModuleTree) → module_at ms top path ≡ Some m → (x : Name) → IsTrue (net_kind_is_read (net_kind_of (declared m) x))
      → is_clk x ≡ false → (one n path).net x ≡ (two n path).net x
  pub cells : (n : ℕ) (path : Path) (m : ModuleTree) → module_at ms top path ≡ Some m → AllByRecursion (SameHeld (one n path) (two n path)) m.items

-- a run with these inputs from these contents
pub record IsRunOf (ms : List ModuleTree) (top : ModuleTree) (inputs : ℕ → Name → ℕ) (contents : Path → Cycle) (nets : ℕ → Path → Cycle) : Type 0 where
  pub runs : Runs ms top nets
  pub inputs_are : TakesInputs top inputs nets
  pub begins : BeginsWith ms top contents nets

-- a run in this environment from these contents
pub record IsRunFrom (ms : List ModuleTree) (top : ModuleTree) (env : Environment) (contents : Path → Cycle) (nets : ℕ → Path → Cycle) : Type 0 where
  pub runs_in : RunsIn ms top env nets
  pub begins : BeginsWith ms top contents nets

-- there is one, and two of them are the same
pub record IsOnly (ms : List ModuleTree) (top : ModuleTree) (P : (ℕ → Path → Cycle) → Type 0) : Type 0 where
  pub run : ℕ → Path → Cycle
  pub is : P run
  pub only : (other : ℕ → Path → Cycle) → P other → IsSameRun ms top other run
