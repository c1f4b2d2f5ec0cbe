-- Lines of a text.
use Rattle.std.specs.Prelude.{◌≡◌, ◌-◌, ℕ, List, [], ◌∷◌, ◌++◌, length, take}
use Rattle.tapa_base.specs.Lists.{Has}

-- no byte before the last one is an end of line (LF)
abbrev pub IsLine : List ℕ → Type 0
IsLine line = Has (take (length line - 1) line) 10 → ⊥

-- the last byte is an end of line
abbrev pub EndsLine : List ℕ → Type 0
EndsLine line = (front : List ℕ) × (line ≡ front ++ 10 ∷ [])
