-- Power-up with one number everywhere.
use Rattle.std.specs.Prelude.{◌≡◌, ℕ, ◌%◌, ◌^◌, ◌<◌, List, Option, Some, None}
use Rattle.std.specs.List.{AllByRecursion}
use Rattle.vlog_tree.specs.declared.tree.Item.{Item}
use Rattle.vlog_tree.specs.declared.tree.Item.TheVariants.{Wire, Reg, Memory, Assign, Always, Instance}
use Rattle.vlog_tree.specs.Form.{ModuleTree}
use Rattle.tapa_base.specs.Lists.{Has}
use Rattle.vlog_tree.specs.Table.{declared, bits_of}
use Rattle.vlog_tree.specs.Cycle.{Cycle, Path, module_at}
use Rattle.vlog_tree.specs.Refused.{IsSound}
use Rattle.vlog_run_laws.specs.runs.OneRun.{FitsPowerUp}

-- the register of a line, or each cell of its memory, holds a number cut to its width
abbrev pub HoldsFill : ℕ → Cycle → Item → Type 0
HoldsFill fill c (Reg w x) = c.net x ≡ fill % 2 ^ w
HoldsFill fill c (Memory w m n) = (a : ℕ) → a < n → c.cell m a ≡ fill % 2 ^ w
HoldsFill fill c (Wire w x) = Unit {0}
HoldsFill fill c (Assign x e) = Unit {0}
HoldsFill fill c (Always b) = Unit {0}
HoldsFill fill c (Instance m i connections) = Unit {0}

-- every register and every cell of a design holds this number, cut to its width
abbrev pub IsFilled : List ModuleTree → ModuleTree → ℕ → (Path → Cycle) → Type 0
IsFilled ms top fill contents = (path : Path) (m : ModuleTree) → module_at ms top path ≡ Some m → AllByRecursion (HoldsFill fill (contents path)) m.items

abbrev pub filled_module : ℕ → Option ModuleTree → Cycle
filled_module fill None = record { net = λ x. 0; cell = λ x a. 0 }
filled_module fill (Some m) = record { net = λ x. fill % 2 ^ bits_of (declared m) x; cell = λ x a. fill % 2 ^ bits_of (declared m) x }

-- such contents
abbrev pub filled : List ModuleTree → ModuleTree → ℕ → Path → Cycle
filled ms top fill path = filled_module fill (module_at ms top path)

-- contents of that kind are contents that power-up may leave
abbrev pub FillFits : Type 0
FillFits = (ms : List ModuleTree) (top : ModuleTree) (fill : ℕ) (contents : Path → Cycle) → IsFilled ms top fill contents → FitsPowerUp ms top contents

abbrev pub FilledIsFilled : Type 0
FilledIsFilled = (ms : List ModuleTree) (top : ModuleTree) (fill : ℕ) → IsSound ms → Has ms top → IsFilled ms top fill (filled ms top fill)
