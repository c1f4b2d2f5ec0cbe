-- How large a design is at least, counted by modules.
use Rattle.std.specs.Prelude.{◌≡◌, ℕ, ◌+◌, ◌<◌, ◌≤◌, List, [], ◌∷◌, length, map, take, drop, get_or}
use Rattle.tapa_base.specs.Lists.{Has}
use Rattle.vlog_tree.specs.Form.{ModuleTree}
use Rattle.vlog_tree.specs.Table.{module_declared}
use Rattle.vlog_design.specs.Designs.{DesignTree, TopOf}
use Rattle.sim_flat.specs.declared.instances.Instance.{Instance}
use Rattle.sim_flat.specs.declared.tables.Table.{Table}
use Rattle.sim_flat.specs.declared.sizes.Sizes.{Sizes}
use Rattle.sim_flat.specs.Kinds.{kind_place, all_kinds}
use Rattle.sim_flat.specs.Rows.{kinds_at}
use Rattle.sim_flat.specs.Numbering.{names_at}

-- what is counted in some modules, all together
abbrev pub sum_at : List ℕ → List ℕ → ℕ
sum_at counts [] = 0
sum_at counts (k ∷ ks) = get_or counts k 0 + sum_at counts ks

-- In no module more is counted than it has of its own and what is counted in the modules of its instances.
abbrev pub AreCounts : List (List ℕ) → (ℕ → ℕ) → List ℕ → Type 0
AreCounts kinds own counts = (k : ℕ) → get_or counts k 0 ≤ own k + sum_at counts (kinds_at kinds k)

-- what instances have of their own, all together
abbrev pub own_sum : (ℕ → ℕ) → List Instance → ℕ
own_sum own [] = 0
own_sum own (r ∷ rs) = own r.kind + own_sum own rs

-- what the first instances have of their own, and what is counted in the modules of those after them
abbrev pub sum_from : (ℕ → ℕ) → List ℕ → List Instance → ℕ → ℕ
sum_from own counts rows done = own_sum own (take done rows) + own_sum (λ k. get_or counts k 0) (drop done rows)

-- from some instances to others such sums do not fall
abbrev pub KeepSums : List (List ℕ) → List Instance → ℕ → List Instance → ℕ → Type 0
KeepSums kinds old before new after = (own : ℕ → ℕ) (counts : List ℕ) → AreCounts kinds own counts → sum_from own counts old before ≤ sum_from own counts new after

-- what is counted in the top is no more than its instances have
abbrev pub CountsWithin : List (List ℕ) → ℕ → List Instance → ℕ → Type 0
CountsWithin kinds top rows done = (own : ℕ → ℕ) (counts : List ℕ) → AreCounts kinds own counts → get_or counts top 0 ≤ sum_from own counts rows done

-- a number that is counted in the top
pub record IsCounted (ms : List ModuleTree) (top : ModuleTree) (own : ℕ → ℕ) (n : ℕ) : Type 0 where
  pub counts : List ℕ
  pub are : AreCounts (all_kinds (map module_declared ms) ms) own counts
  pub is : n ≡ get_or counts (kind_place (map module_declared ms) top.name) 0

-- the instances that are counted, each one in its module, and the nets, each name of a module in it
pub record AreSizes (d : DesignTree) (tables : List Table) (s : Sizes) : Type 0 where
  pub instances : (m : ModuleTree) → TopOf d m → IsCounted d.modules m (λ k. 1) s.instances
  pub nets : (m : ModuleTree) → TopOf d m → IsCounted d.modules m (names_at tables) s.nets

-- a design is no smaller than it was counted
pub record AreReached (s : Sizes) (instances nets : ℕ) : Type 0 where
  pub rows : s.instances ≤ instances
  pub owners : s.nets ≤ nets

-- pairs of numbers below a count
abbrev pub AreBelow : ℕ → List (ℕ × ℕ) → Type 0
AreBelow count pairs = (j k : ℕ) → Has pairs (j, k) → (j < count) × (k < count)

-- how many names a module declares
abbrev pub names_in : Table → ℕ
names_in t = length t.sources.items
