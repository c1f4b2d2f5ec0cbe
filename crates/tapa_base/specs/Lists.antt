-- What a list has, and chains of steps of a relation.
use Rattle.std.specs.Prelude.{◌≡◌, ◌⊎◌, List, [], ◌∷◌}

-- b is an element of the list
abbrev pub Has : {N : Type 0} → List N → N → Type 0
Has [] b = ⊥
Has (x ∷ xs) b = (x ≡ b) ⊎ Has xs b

-- one or more steps of a relation
pub data Chain {N : Type 0} (R : N → N → Type 0) : N → N → Type 0 where
  one : {a b : N} → R a b → Chain R a b
  more : {a c : N} (b : N) → R a b → Chain R b c → Chain R a c
