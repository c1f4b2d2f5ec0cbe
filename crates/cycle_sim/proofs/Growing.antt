-- Lists that grow by one at their end.
use Rattle.std.proofs.Common.{◌≡◌, ◌≢◌, ℕ, zero, suc, ◌+◌, ◌<◌, List, [], ◌∷◌, ◌++◌, Some, length, inl, inr, refl, sym, subst, ◌∙◌, arith}
use Rattle.std.specs.Prelude.{◌⊎◌, slice_get}
use Rattle.std.proofs.lemmas.Bool.{cases_eq}

pub got_last : {A : Type 0} (ys : List A) (y : A) (j : ℕ) → j ≡ length ys → slice_get (ys ++ y ∷ []) j ≡ Some y
got_last [] y zero e = refl
got_last [] y (suc j) e = absurd (omega (arith, e))
got_last (z ∷ ys) y zero e = absurd (omega (arith, e))
got_last (z ∷ ys) y (suc j) e = got_last ys y j (omega (arith, e))

pub got_before : {A : Type 0} (ys : List A) (y : A) (j : ℕ) → j < length ys → slice_get (ys ++ y ∷ []) j ≡ slice_get ys j
got_before [] y j h = absurd (omega (arith, h))
got_before (z ∷ ys) y zero h = refl
got_before (z ∷ ys) y (suc j) h = got_before ys y j (omega (arith, h))

-- each of the first elements of one list has one of another list at its place
abbrev pub EachBelow : {A B : Type 0} → (A → B → Type 0) → List A → List B → ℕ → Type 0
EachBelow {A} {B} P xs ys n = (j : ℕ) (x : A) → j < n → slice_get xs j ≡ Some x → (y : B) × (slice_get ys j ≡ Some y) × P x y

pub each_none : {A B : Type 0} (P : A → B → Type 0) (xs : List A) (ys : List B) → EachBelow P xs ys 0
each_none P xs ys j x low got = absurd (omega (arith, low))

pub each_more : {A B : Type 0} (P : A → B → Type 0) (xs : List A) (ys : List B) (y : B) (n : ℕ) → length ys ≡ n → EachBelow P xs ys n → ((x : A) → slice_get xs n ≡ Some x → P x y) → EachBelow P xs (ys ++ y ∷ []) (n + 1)
each_more {A} {B} P xs ys y n long was here j x low got = by_case (cases_eq j n) where
  by_case : (j ≡ n) ⊎ (j ≢ n) → (z : B) × (slice_get (ys ++ y ∷ []) j ≡ Some z) × P x z
  by_case (inl e) = (y, got_last ys y j (e ∙ sym long), here x (subst (λ k. slice_get xs k ≡ Some x) e got))
  by_case (inr ne) =
      let before : j < n = omega arith in
      let w = was j x before got in
      (w.0, got_before ys y j (subst (λ k. j < k) (sym long) before) ∙ w.1, w.2)
