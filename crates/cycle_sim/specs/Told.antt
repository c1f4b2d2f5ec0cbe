-- What a simulator shows of a design in a cycle.
use Rattle.std.specs.Prelude.{◌≡◌, ℕ, ◌<◌, List, [], Some, slice_get, slice_index_or, false, IsTrue}
use Rattle.tapa_base.specs.declared.shape.Port.{Port}
use Rattle.vlog_tree.specs.declared.tree.Item.TheVariants.{Memory}
use Rattle.vlog_tree.specs.Form.{ModuleTree}
use Rattle.tapa_base.specs.Lists.{Has}
use Rattle.vlog_tree.specs.Refused.{IsDesign}
use Rattle.vlog_tree.specs.Table.{Name, is_clk, declared, net_kind_of, net_kind_is_read}
use Rattle.vlog_tree.specs.Cycle.{Cycle, Path, module_at}
use Rattle.vlog_tree.specs.Environment.{Environment, shape_of, cells_at}
use Rattle.vlog_run_laws.specs.runs.OneRun.{IsRunFrom}
use Rattle.vlog_run_laws.specs.runs.Filled.{IsFilled}

-- the cycle, the number of each net by its path and its name, the cells of each memory, and the cells of the memories around
-- the design, by their indices in its shape
pub record TellTree : Type 0 where
  pub cycle : ℕ
  pub number : Path → Name → ℕ
  pub cell : Path → Name → ℕ → ℕ
  pub outside : ℕ → List ℕ

-- what is shown is what a run has in its cycle; the clock is left out, since no line reads it
pub record IsToldOf (ms : List ModuleTree) (top : ModuleTree) (env : Environment) (nets : ℕ → Path → Cycle) (t : TellTree) : Type 0 where
  pub numbers : (path : Path) (m : ModuleTree) (x : Name) → module_at ms top path ≡ Some m → IsTrue (net_kind_is_read (net_kind_of (declared m) x)) → is_clk x ≡ false
      → t.number path x ≡ (nets t.cycle path).net x
  pub cells : (path : Path) (m : ModuleTree) (w : ℕ) (x : Name) (k a : ℕ) → module_at ms top path ≡ Some m → Has m.items (Memory w x k) → a < k
      → t.cell path x a ≡ (nets t.cycle path).cell x a
  pub outside : (i : ℕ) (l : Port) → slice_get (shape_of top).memories i ≡ Some l → t.outside i ≡ cells_at (λ n. nets n []) l.name (slice_index_or env.memories i []) t.cycle

-- it is shown of a design in an environment, where every register and every cell begins with a number, cut to its width
abbrev pub TellsEachRun : List ModuleTree → ModuleTree → Environment → ℕ → TellTree → Type 0
TellsEachRun ms top env fill t = (contents : Path → Cycle) (nets : ℕ → Path → Cycle) → IsFilled ms top fill contents → IsRunFrom ms top env contents nets → IsToldOf ms top env nets t

-- in all that can be asked for, two say the same
pub record IsSameTold (ms : List ModuleTree) (top : ModuleTree) (s t : TellTree) : Type 0 where
  pub numbers : (path : Path) (m : ModuleTree) (x : Name) → module_at ms top path ≡ Some m → IsTrue (net_kind_is_read (net_kind_of (declared m) x))
      → is_clk x ≡ false → s.number path x ≡ t.number path x
  pub cells : (path : Path) (m : ModuleTree) (w : ℕ) (x : Name) (k a : ℕ) → module_at ms top path ≡ Some m → Has m.items (Memory w x k) → a < k → s.cell path x a ≡ t.cell path x a
  pub outside : (i : ℕ) (l : Port) → slice_get (shape_of top).memories i ≡ Some l → s.outside i ≡ t.outside i

-- all that is shown of a cycle is determined
abbrev pub ToldIsOne : Type 0
ToldIsOne =
    (ms : List ModuleTree) (place : ℕ) (top : ModuleTree) (env : Environment) (fill : ℕ) (s t : TellTree)
    → IsDesign ms place → slice_get ms place ≡ Some top → TellsEachRun ms top env fill s → TellsEachRun ms top env fill t → s.cycle ≡ t.cycle → IsSameTold ms top s t
