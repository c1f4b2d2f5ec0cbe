-- Numbers of the nets of instances, as they are given.
use Rattle.std.specs.Prelude.{◌≡◌, ℕ, ◌+◌, ◌<◌, ◌≤◌, List, Some, length, get_or, slice_get}
use Rattle.std.specs.Option.{option_map_or}
use Rattle.sim_flat.specs.declared.instances.Instance as row
use Rattle.sim_flat.specs.Rows.{row_at}
use Rattle.sim_flat.specs.declared.tables.Table.{Table}

-- how many names the module at an index declares, and the module of an instance
abbrev pub names_at : List Table → ℕ → ℕ
names_at tables kind = option_map_or (λ (t : Table). length t.sources.items) (slice_get tables kind) 0

abbrev pub count_at : List Table → List row.Instance → ℕ → ℕ
count_at tables rows k = names_at tables (row_at rows k).kind

-- The first n instances, each with its count of names, have numbers for them, one instance after the other.
pub record IsNumbering (count : ℕ → ℕ) (n : ℕ) (first owners : List ℕ) : Type 0 where
  pub len : length first ≡ n
  pub starts : get_or first 0 (length owners) ≡ 0
  pub within : (k : ℕ) → k < n → get_or first k 0 + count k ≤ length owners
  pub owned : (k j : ℕ) → k < n → j < count k → slice_get owners (get_or first k 0 + j) ≡ Some k
  pub owner : (number k : ℕ) → slice_get owners number ≡ Some k → (k < n) × ((j : ℕ) × (j < count k) × (number ≡ get_or first k 0 + j))
