-- How far a text goes along with words.
use Rattle.std.specs.Prelude.{◌≡◌, ℕ, suc, ◌+◌, ◌<◌, ◌≤◌, ◌==◌, if◌then◌else◌, [], ◌∷◌, length}
use Rattle.tapa_base.specs.Gaps.{Bytes}

-- the number of bytes that a word and a text have in common at their start
abbrev pub common : Bytes → Bytes → ℕ
common [] z = 0
common (a ∷ w) [] = 0
common (a ∷ w) (b ∷ z) = if a == b then suc (common w z) else 0

-- the text begins with none of these words whole, and with at most n bytes of one
pub record Stops (W : Bytes → Type 0) (z : Bytes) (n : ℕ) : Type 0 where
  pub word : Bytes
  pub is_word : W word
  pub along : n ≤ common word z
  pub most : (w : Bytes) → W w → common w z ≤ n
  pub none : (w : Bytes) → W w → common w z < length w

-- the number of bytes that are left of a text where it stops
abbrev pub StopsBefore : (Bytes → Type 0) → Bytes → ℕ → Type 0
StopsBefore W z left = (n : ℕ) × (n + left ≡ length z) × Stops W z n
