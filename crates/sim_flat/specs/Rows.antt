-- Rows of instances as they grow: the first ones have the instances in them, one after the other.
use Rattle.std.specs.Prelude.{◌≡◌, ℕ, ◌+◌, ◌<◌, ◌≤◌, List, [], ◌∷◌, length, get_or}
use Rattle.sim_flat.specs.declared.instances.Instance.{Instance}

abbrev pub row_at : List Instance → ℕ → Instance
row_at rows k = get_or rows k (record { kind = 0; around = 0; child = 0; depth = 0 })

-- the instances of one module in an instance, from an index on
abbrev pub rows_inside : ℕ → ℕ → ℕ → List ℕ → List Instance
rows_inside around depth child [] = []
rows_inside around depth child (k ∷ ks) = record { kind = k; around = around; child = child; depth = depth } ∷ rows_inside around depth (child + 1) ks

abbrev pub kinds_at : List (List ℕ) → ℕ → List ℕ
kinds_at kinds j = get_or kinds j []

-- an instance, by its row and that of the instance around it, is one of those in there, which come before it
pub record IsPlaced (kinds : List (List ℕ)) (done s : ℕ) (row outer : Instance) : Type 0 where
  pub early : row.around < done
  pub before : row.around < s
  pub inside : row.child < length (kinds_at kinds outer.kind)
  pub kind : row.kind ≡ get_or (kinds_at kinds outer.kind) row.child 0
  pub depth : row.depth ≡ outer.depth + 1

-- the instance with this number is the one at an index in another
pub record IsInside (rows : List Instance) (s k c : ℕ) : Type 0 where
  pub there : s < length rows
  pub behind : k < s
  pub around : (row_at rows s).around ≡ k
  pub child : (row_at rows s).child ≡ c

pub record AreRows (kinds : List (List ℕ)) (top : ℕ) (rows : List Instance) (first : List ℕ) : Type 0 where
  pub some : 0 < length rows
  pub top_kind : (row_at rows 0).kind ≡ top
  pub top_depth : (row_at rows 0).depth ≡ 0
  pub fewer : length first ≤ length rows
  pub placed : (s : ℕ) → 0 < s → s < length rows → IsPlaced kinds (length first) s (row_at rows s) (row_at rows (row_at rows s).around)
  pub inside : (k c : ℕ) → k < length first → c < length (kinds_at kinds (row_at rows k).kind) → IsInside rows (get_or first k 0 + c) k c
  pub once : (s : ℕ) → 0 < s → s < length rows → s ≡ get_or first (row_at rows s).around 0 + (row_at rows s).child

-- the instances from one to another are so deep
abbrev pub HaveDepth : List Instance → ℕ → ℕ → ℕ → Type 0
HaveDepth rows low high depth = (s : ℕ) → low ≤ s → s < high → (row_at rows s).depth ≡ depth

-- more rows after some
pub record AreMore (old new : List Instance) : Type 0 where
  pub count : length old ≤ length new
  pub same : (k : ℕ) → k < length old → row_at new k ≡ row_at old k
