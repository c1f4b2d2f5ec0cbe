-- Lists of names whose elements are apart.
use Rattle.std.proofs.Common.{◌≡◌, ℕ, zero, suc, List, [], ◌∷◌, ◌++◌, map, Some, refl, sym, ap, subst, ◌∙◌, arith}
use Rattle.std.specs.Prelude.{slice_get}
use Rattle.std.specs.List.{AllByRecursion}
use Rattle.tapa_base.specs.Gaps.{Bytes}
use Rattle.stream_check.proofs.WellLists.{nothing}
use Rattle.tapa_syntax.specs.OwnNames.{AreApart}
use Rattle.tapa_base.proofs.Got.{the_same}

-- ---- what holds of each element

pub all_append : {A : Type 0} (P : A → Type 0) (xs ys : List A) → AllByRecursion P xs → AllByRecursion P ys → AllByRecursion P (xs ++ ys)
all_append P [] ys a b = b
all_append P (x ∷ xs) ys (p, a) b = (p, all_append P xs ys a b)

pub all_more : {A : Type 0} (P Q : A → Type 0) → ((x : A) → P x → Q x) → (xs : List A) → AllByRecursion P xs → AllByRecursion Q xs
all_more P Q f [] a = tt
all_more P Q f (x ∷ xs) (p, a) = (f x p, all_more P Q f xs a)

pub all_map : {A B : Type 0} (P : B → Type 0) (f : A → B) (xs : List A) → AllByRecursion (λ x. P (f x)) xs → AllByRecursion P (map f xs)
all_map P f [] a = tt
all_map P f (x ∷ xs) (p, a) = (p, all_map P f xs a)

pub all_both : {A : Type 0} (P Q R : A → Type 0) → ((x : A) → P x → Q x → R x) → (xs : List A) → AllByRecursion P xs → AllByRecursion Q xs → AllByRecursion R xs
all_both P Q R f [] a b = tt
all_both P Q R f (x ∷ xs) (p, a) (q, b) = (f x p q, all_both P Q R f xs a b)

pub all_at : {A : Type 0} (P : A → Type 0) (xs : List A) (i : ℕ) (x : A) → AllByRecursion P xs → slice_get xs i ≡ Some x → P x
all_at P [] i x a h = absurd (nothing x h)
all_at P (y ∷ xs) zero x (p, a) h = subst P (the_same y x h) p
all_at P (y ∷ xs) (suc i) x (p, a) h = all_at P xs i x a h

pub all_from : {A : Type 0} (P : A → Type 0) (xs : List A) → ((i : ℕ) (x : A) → slice_get xs i ≡ Some x → P x) → AllByRecursion P xs
all_from P [] f = tt
all_from P (x ∷ xs) f = (f 0 x refl, all_from P xs (λ i y h. f (suc i) y h))

-- ---- elements apart

abbrev pub Avoids : Bytes → List Bytes → Type 0
Avoids x ys = AllByRecursion (λ y. x ≡ y → ⊥) ys

abbrev pub Distinct : List Bytes → Type 0
Distinct [] = Unit {0}
Distinct (x ∷ xs) = Avoids x xs × Distinct xs

pub distinct : (xs : List Bytes) → AreApart xs → Distinct xs
distinct [] a = tt
distinct (x ∷ xs) a = (
  all_from (λ y. x ≡ y → ⊥) xs (λ i y h e. let z : 0 ≡ suc i = a 0 (suc i) x refl (h ∙ ap Some (sym e)) in omega arith),
  distinct xs (λ p q y h k. let z : suc p ≡ suc q = a (suc p) (suc q) y h k in omega arith),
)

pub apart : (xs : List Bytes) → Distinct xs → AreApart xs
apart [] d p q x h k = absurd (nothing x h)
apart (y ∷ ys) d zero zero x h k = refl
apart (y ∷ ys) d zero (suc q) x h k = absurd (all_at (λ z. y ≡ z → ⊥) ys q x d.0 k (the_same y x h))
apart (y ∷ ys) d (suc p) zero x h k = absurd (all_at (λ z. y ≡ z → ⊥) ys p x d.0 h (the_same y x k))
apart (y ∷ ys) d (suc p) (suc q) x h k = ap suc (apart ys d.1 p q x h k)

pub distinct_append : (xs ys : List Bytes) → Distinct xs → Distinct ys → AllByRecursion (λ x. Avoids x ys) xs → Distinct (xs ++ ys)
distinct_append [] ys d e a = e
distinct_append (x ∷ xs) ys d e a = (all_append (λ y. x ≡ y → ⊥) xs ys d.0 a.0, distinct_append xs ys d.1 e a.1)

pub distinct_map : (f : Bytes → Bytes) → ((x y : Bytes) → f x ≡ f y → x ≡ y) → (xs : List Bytes) → Distinct xs → Distinct (map f xs)
distinct_map f same [] d = tt
distinct_map f same (x ∷ xs) d = (all_map (λ z. f x ≡ z → ⊥) f xs (all_more (λ y. x ≡ y → ⊥) (λ y. f x ≡ f y → ⊥) (λ y far e. far (same x y e)) xs d.0), distinct_map f same xs d.1)

-- what holds of the elements of one list tells them from those of another
pub all_avoid : (P Q : Bytes → Type 0) → ((x y : Bytes) → P x → Q y → x ≡ y → ⊥) → (xs ys : List Bytes) → AllByRecursion P xs → AllByRecursion Q ys → AllByRecursion (λ x. Avoids x ys) xs
all_avoid P Q differ [] ys a b = tt
all_avoid P Q differ (x ∷ xs) ys a b = (all_more Q (λ y. x ≡ y → ⊥) (λ y q. differ x y a.0 q) ys b, all_avoid P Q differ xs ys a.1 b)
