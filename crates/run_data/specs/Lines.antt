-- Lines one after another.
use Rattle.std.specs.Prelude.{ℕ, suc, List, [], ◌∷◌, ◌++◌, map, Vec}
use Rattle.std.specs.List.{flat_map}
use Rattle.std.specs.declared.alloc.Global.{Global}

-- the lines that vectors hold
abbrev pub lines_in : List (Vec ℕ Global) → List (List ℕ)
lines_in vectors = map (λ (line : Vec ℕ Global). line.items) vectors

-- lines one after another
abbrev pub joined : List (List ℕ) → List ℕ
joined lines = flat_map (λ (line : List ℕ). line) lines

-- the lines of things that are counted, from number n on
abbrev pub lines_from : {A : Type 0} → (A → ℕ → List ℕ) → ℕ → List A → List ℕ
lines_from line n [] = []
lines_from line n (x ∷ rest) = line x n ++ lines_from line (suc n) rest
