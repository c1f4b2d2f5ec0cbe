-- What it is for data to fit: a value for each scalar, and cells for each memory, each of its number of bits.
use Rattle.std.specs.Prelude.{◌≡◌, ℕ, ◌^◌, ◌<◌, List, [], length, slice_get, slice_index, slice_index_or, Some, All}

-- every number has its width
pub record Fits (scalar_bits memory_bits scalars : List ℕ) (memories : List (List ℕ)) : Type 0 where
  pub as_many_scalars : length scalars ≡ length scalar_bits
  pub as_many_memories : length memories ≡ length memory_bits
  pub scalars_fit : (i bits : ℕ) → slice_get scalar_bits i ≡ Some bits → slice_index scalars i < 2 ^ bits
  pub cells_fit : (m bits : ℕ) → slice_get memory_bits m ≡ Some bits → All (λ cell. cell < 2 ^ bits) (slice_index_or memories m [])
