-- The numbers of one cycle that a design allows.
use Rattle.std.specs.Prelude.{◌≡◌, List, Some}
use Rattle.std.specs.List.{AllByRecursion}
use Rattle.vlog_tree.specs.Form.{ModuleTree}
use Rattle.vlog_tree.specs.Cycle.{Cycle, Sizes, Path, Holds, PortHolds, Connected, module_at}
use Rattle.vlog_run_laws.specs.widths.Widths.{NumbersFit}

-- numbers that the ports and lines of a module allow, of these sizes
pub record IsLawful (m : ModuleTree) (s : Sizes) (c : Cycle) : Type 0 where
  pub ports : AllByRecursion (PortHolds s) m.ports
  pub lines : AllByRecursion (Holds s c) m.items

-- The lines and connections of all modules allow these numbers within the cycle, and they fit the widths that are declared.
pub record IsValuation (ms : List ModuleTree) (top : ModuleTree) (c : Path → Cycle) : Type 0 where
  pub lines : (path : Path) (m : ModuleTree) → module_at ms top path ≡ Some m → (s : Sizes) × IsLawful m s (c path)
  pub connections : (path : Path) (m : ModuleTree) → module_at ms top path ≡ Some m → AllByRecursion (Connected c path) m.items
  pub fits : (path : Path) (m : ModuleTree) → module_at ms top path ≡ Some m → NumbersFit m (c path)
