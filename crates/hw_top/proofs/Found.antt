-- What a look-up in a list gives.
use Rattle.std.proofs.Common.{◌≡◌, ℕ, ◌<◌, ◌≤◌, List, length, get_or, Some, None, refl, subst}
use Rattle.std.specs.Prelude.{slice_get}
use Rattle.std.proofs.lemmas.Option.{slice_get_read, slice_get_past}

-- an element that was found, by its place
pub found : {A : Type 0} (xs ys : List A) (i : ℕ) (x : A) → ys ≡ xs → i < length ys → x ≡ get_or ys i x → slice_get xs i ≡ Some x
found {A} xs ys i x e h is = subst (λ (l : List A). slice_get l i ≡ Some x) e (slice_get_read ys (length ys) i x refl h is)

-- and none past the end
pub missing : {A : Type 0} (xs ys : List A) (i : ℕ) → ys ≡ xs → length ys ≤ i → slice_get xs i ≡ None
missing {A} xs ys i e h = subst (λ (l : List A). slice_get l i ≡ None) e (slice_get_past ys i h)
