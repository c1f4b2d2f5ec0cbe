-- Lists of numbers.
use Rattle.std.proofs.Common.{◌≡◌, ℕ, zero, suc, ◌<◌, List, [], ◌∷◌, length, get_or, inl, inr, refl, arith}
use Rattle.tapa_base.specs.Lists.{Has}

pub has_at : (xs : List ℕ) (x : ℕ) → Has xs x → (i : ℕ) × (i < length xs) × (get_or xs i 0 ≡ x)
has_at [] x h = absurd h
has_at (y ∷ ys) x (inl e) = (0, omega arith, e)
has_at (y ∷ ys) x (inr h) = let r = has_at ys x h in (suc r.0, let b : r.0 < length ys = r.1 in omega arith, r.2)

pub at_has : (xs : List ℕ) (i : ℕ) → i < length xs → Has xs (get_or xs i 0)
at_has [] i h = absurd (omega arith)
at_has (x ∷ xs) zero h = inl refl
at_has (x ∷ xs) (suc i) h = inr (at_has xs i (omega arith))

pub pair_at : (xs : List (ℕ × ℕ)) (i : ℕ) → i < length xs → Has xs (get_or xs i (0, 0))
pair_at [] i h = absurd (omega arith)
pair_at (x ∷ xs) zero h = inl refl
pair_at (x ∷ xs) (suc i) h = inr (pair_at xs i (omega arith))
