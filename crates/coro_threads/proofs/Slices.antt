-- A slice of a whole list that was written back.
use Rattle.std.proofs.Common.{◌≡◌, ◌∙◌, ℕ, ◌++◌, List, length, take, sym, subst}
use Rattle.std.proofs.Math.Seq.{take-append_seam}

-- nothing of the list stays as it was
pub whole : {A : Type 0} (n : ℕ) (xs ys zs : List A) → n ≡ length xs → length ys ≡ length xs → take n (ys ++ zs) ≡ ys
whole n xs ys zs e l = subst (λ m. take m (ys ++ zs) ≡ ys) (l ∙ sym e) (take-append_seam ys zs)
