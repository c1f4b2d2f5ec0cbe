-- Lists of one length, walks along parts, loops, and things whose chains of parts all come to an end.
use Rattle.std.specs.Prelude.{◌≡◌, ℕ, zero, suc, ◌⊎◌, List, [], ◌∷◌}
use Rattle.tapa_base.specs.Lists.{Has}

-- two lists of one length whose elements fit each other
abbrev pub AllTwo : {A B : Type 0} → (A → B → Type 0) → List A → List B → Type 0
AllTwo R [] [] = Unit {0}
AllTwo R [] (y ∷ ys) = ⊥
AllTwo R (x ∷ xs) [] = ⊥
AllTwo R (x ∷ xs) (y ∷ ys) = R x y × AllTwo R xs ys

-- n steps from a thing to a part of a part and so on
abbrev pub Walk : {N : Type 0} → (N → List N) → ℕ → N → N → Type 0
Walk parts zero a b = a ≡ b
Walk {N} parts (suc n) a b = (c : N) × Has (parts a) c × Walk parts n c b

abbrev pub OnLoop : {N : Type 0} → (N → List N) → N → Type 0
OnLoop parts a = (n : ℕ) × Walk parts (suc n) a a

-- all chains of parts from here come to an end
pub data IsGrounded {N : Type 0} (parts : N → List N) : N → Type 0 where
  grounded : {a : N} → ((b : N) → Has (parts a) b → IsGrounded parts b) → IsGrounded parts a
