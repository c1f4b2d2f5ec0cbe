-- Marks of numbers, and the list of the marked ones.
use Rattle.std.specs.Prelude.{◌≡◌, ◌↔◌, ℕ, suc, ◌+◌, List, [], ◌∷◌, ◌++◌, Bool, true, false, length, get_or}
use Rattle.tapa_base.specs.Lists.{Has}

-- exactly the listed numbers are marked
abbrev pub IsMarked : List Bool → List ℕ → Type 0
IsMarked marks found = (m : ℕ) → (get_or marks m false ≡ true) ↔ Has found m

-- how many marks are not set
abbrev pub unset : List Bool → ℕ
unset [] = 0
unset (true ∷ marks) = unset marks
unset (false ∷ marks) = suc (unset marks)

-- some numbers with a property were marked and listed, each once
pub record Grows (marks marks_new : List Bool) (found found_new : List ℕ) (P : ℕ → Type 0) : Type 0 where
  pub len : length marks_new ≡ length marks
  pub marked : IsMarked marks_new found_new
  pub count : length found_new + unset marks_new ≡ length found + unset marks
  pub extra : List ℕ
  pub grown : found_new ≡ found ++ extra
  pub only : (m : ℕ) → Has extra m → P m
