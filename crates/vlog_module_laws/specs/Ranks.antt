-- Modules whose nets fall in rank along all that they depend on have no loop.
use Rattle.std.specs.Prelude.{◌≡◌, ℕ, ◌<◌, Bool, List, Some, map}
use Rattle.vlog_tree.specs.declared.table.NetKind.TheVariants.{Input, Output}
use Rattle.vlog_tree.specs.Form.{ModuleTree}
use Rattle.tapa_base.specs.Lists.{Has}
use Rattle.vlog_tree.specs.Table.{Name, module_named, port_declared, net_kind_of}
use Rattle.vlog_tree.specs.V6.{module_children}
use Rattle.vlog_tree.specs.Loops.{Rests, IsLoopless, direct_edges, instances, port_of}

-- A rank of a module's names falls along its own lines, and from each output of an instance to the inputs on which that
-- output rests inside.
pub record FallsBy (ms : List ModuleTree) (is_top : Name → Bool) (m : ModuleTree) (rank : Name → ℕ) : Type 0 where
  pub direct : (x y : Name) → Has (direct_edges ms is_top m) (x, y) → rank y < rank x
  pub inside : (kn i x y : Name) (k : ModuleTree) → Has (instances m) (kn, i) → module_named ms kn ≡ Some k
      → net_kind_of (map port_declared k.ports) x ≡ Output → net_kind_of (map port_declared k.ports) y ≡ Input → Rests ms is_top k x y
      → rank (port_of i y) < rank (port_of i x)

-- a net depends on nets of lower rank
abbrev pub RestsOnLowerRanks : Type 0
RestsOnLowerRanks = (ms : List ModuleTree) (is_top : Name → Bool) (m : ModuleTree) (rank : Name → ℕ) → FallsBy ms is_top m rank → (x y : Name) → Rests ms is_top m x y → rank y < rank x

-- so that none depends on itself
abbrev pub RankedIsOnNoLoop : Type 0
RankedIsOnNoLoop = (ms : List ModuleTree) (is_top : Name → Bool) (m : ModuleTree) (rank : Name → ℕ) → FallsBy ms is_top m rank → (x : Name) → Rests ms is_top m x x → ⊥

-- a level of each module, above those of the modules that it contains, and in each module such a rank
pub record HaveRanks (ms : List ModuleTree) (is_top : Name → Bool) : Type 0 where
  pub level : Name → ℕ
  pub contains_lower : (m : ModuleTree) (kn : Name) → Has ms m → Has (module_children m) kn → level kn < level m.name
  pub rank : ModuleTree → Name → ℕ
  pub falls : (m : ModuleTree) → Has ms m → FallsBy ms is_top m (rank m)

abbrev pub RankedIsLoopless : Type 0
RankedIsLoopless = (ms : List ModuleTree) (is_top : Name → Bool) → HaveRanks ms is_top → IsLoopless ms is_top
