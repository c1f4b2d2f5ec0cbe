-- The instances of a design by number, and the ways to them.
use Rattle.std.specs.Prelude.{◌≡◌, ℕ, ◌+◌, ◌<◌, List, [], ◌∷◌, Some, length, get_or, slice_get}
use Rattle.vlog_tree.specs.Form.{ModuleTree}
use Rattle.vlog_tree.specs.Cycle.{Path, module_at}
use Rattle.vlog_tree.specs.Table.{Name}
use Rattle.vlog_tree.specs.Loops.{instances}
use Rattle.sim_flat.specs.declared.instances.Instance.{Instance}
use Rattle.sim_flat.specs.Rows.{row_at, IsInside}

-- the name of an instance among those of the module around it
pub record IsNamed (ms : List ModuleTree) (rows : List Instance) (k : ℕ) (i : Name) : Type 0 where
  pub outer : ModuleTree
  pub module_name : Name
  pub got : slice_get ms (row_at rows (row_at rows k).around).kind ≡ Some outer
  pub named : slice_get (instances outer) (row_at rows k).child ≡ Some (module_name, i)

-- the number of the instance at the end of a path: the top is number 0
abbrev pub StandsAt : List ModuleTree → List Instance → ℕ → Path → Type 0
StandsAt ms rows k [] = k ≡ 0
StandsAt ms rows k (i ∷ path) = (0 < k) × IsNamed ms rows k i × StandsAt ms rows (row_at rows k).around path

-- a module is that of an instance
abbrev pub IsModuleOf : List ModuleTree → List Instance → ℕ → ModuleTree → Type 0
IsModuleOf ms rows k m = slice_get ms (row_at rows k).kind ≡ Some m

-- Each number denotes the instance at the end of a path, and each instance has one number. Those in one instance have numbers
-- one after the other, in the order of the text.
pub record AreInstances (ms : List ModuleTree) (top : ModuleTree) (rows : List Instance) (first : List ℕ) : Type 0 where
  pub paths : (k : ℕ) → k < length rows → (path : Path) × StandsAt ms rows k path
  pub modules : (k : ℕ) (path : Path) → k < length rows → StandsAt ms rows k path → (m : ModuleTree) × (module_at ms top path ≡ Some m) × IsModuleOf ms rows k m
  pub numbers : (path : Path) (m : ModuleTree) → module_at ms top path ≡ Some m → (k : ℕ) × (k < length rows) × StandsAt ms rows k path
  pub inside : (k c : ℕ) (m : ModuleTree) → k < length rows → IsModuleOf ms rows k m → c < length (instances m) → IsInside rows (get_or first k 0 + c) k c
  pub before : (s : ℕ) → 0 < s → s < length rows → (row_at rows s).around < s
  pub once : (s : ℕ) → 0 < s → s < length rows → s ≡ get_or first (row_at rows s).around 0 + (row_at rows s).child
  pub single : (path : Path) (k n : ℕ) → k < length rows → n < length rows → StandsAt ms rows k path → StandsAt ms rows n path → k ≡ n
