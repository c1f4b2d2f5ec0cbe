-- What lists have, and chains one after another.
use Rattle.std.proofs.Common.{◌≡◌, ℕ, zero, suc, ◌+◌, ◌<◌, true, List, [], ◌∷◌, ◌++◌, length, get_or, take, Option, Some, None, inl, inr, refl, sym, ap, subst, ◌∙◌, arith, map}
use Rattle.std.specs.Prelude.{is_some, slice_get, ◌⊎◌}
use Rattle.std.specs.List.{flat_map}
use Rattle.std.proofs.lemmas.List.{take_more}
use Rattle.tapa_base.specs.Lists.{Has, Chain, one, more}

pub has_left : {N : Type 0} (xs ys : List N) (b : N) → Has xs b → Has (xs ++ ys) b
has_left [] ys b h = absurd h
has_left (x ∷ xs) ys b (inl e) = inl e
has_left (x ∷ xs) ys b (inr h) = inr (has_left xs ys b h)

pub has_right : {N : Type 0} (xs ys : List N) (b : N) → Has ys b → Has (xs ++ ys) b
has_right [] ys b h = h
has_right (x ∷ xs) ys b h = inr (has_right xs ys b h)

pub has_split : {N : Type 0} (xs ys : List N) (b : N) → Has (xs ++ ys) b → Has xs b ⊎ Has ys b
has_split [] ys b h = inr h
has_split (x ∷ xs) ys b (inl e) = inl (inl e)
has_split (x ∷ xs) ys b (inr h) = elim (has_split xs ys b h) [ inl l ↦ inl (inr l) | inr r ↦ inr r ]

pub has_flat : {A B : Type 0} (f : A → List B) (xs : List A) (x : A) (y : B) → Has xs x → Has (f x) y → Has (flat_map f xs) y
has_flat f [] x y h k = absurd h
has_flat f (z ∷ zs) x y (inl e) k = has_left (f z) (flat_map f zs) y (subst (λ w. Has (f w) y) (sym e) k)
has_flat f (z ∷ zs) x y (inr h) k = has_right (f z) (flat_map f zs) y (has_flat f zs x y h k)

pub of_flat : {A B : Type 0} (f : A → List B) (xs : List A) (y : B) → Has (flat_map f xs) y → (x : A) × Has xs x × Has (f x) y
of_flat f [] y h = absurd h
of_flat f (z ∷ zs) y h = elim (has_split (f z) (flat_map f zs) y h) [ inl l ↦ (z, inl refl, l) | inr r ↦ (let t = of_flat f zs y r in (t.0, inr t.1, t.2)) ]

pub has_map : {A B : Type 0} (f : A → B) (xs : List A) (x : A) → Has xs x → Has (map f xs) (f x)
has_map f [] x h = absurd h
has_map f (z ∷ zs) x (inl e) = inl (ap f e)
has_map f (z ∷ zs) x (inr h) = inr (has_map f zs x h)

pub of_map : {A B : Type 0} (f : A → B) (xs : List A) (y : B) → Has (map f xs) y → (x : A) × Has xs x × (f x ≡ y)
of_map f [] y h = absurd h
of_map f (z ∷ zs) y (inl e) = (z, inl refl, e)
of_map f (z ∷ zs) y (inr h) = let t = of_map f zs y h in (t.0, inr t.1, t.2)

pub has_got : {A : Type 0} (xs : List A) (i : ℕ) (x : A) → slice_get xs i ≡ Some x → Has xs x
has_got [] i x e = cc
has_got (y ∷ ys) zero x e = inl cc
has_got (y ∷ ys) (suc i) x e = inr (has_got ys i x e)

pub got_has : {A : Type 0} (xs : List A) (x : A) → Has xs x → (i : ℕ) × (i < length xs) × (slice_get xs i ≡ Some x)
got_has [] x h = absurd h
got_has (y ∷ ys) x (inl e) = (0, omega arith, ap (λ z. Some z) e)
got_has (y ∷ ys) x (inr h) = let r = got_has ys x h in (suc r.0, let b : r.0 < length ys = r.1 in omega arith, r.2)

-- one more of the elements that were gone over
pub taken_split : {A : Type 0} (xs : List A) (i : ℕ) (x y : A) → i < length xs → x ≡ get_or xs i x → Has (take (i + 1) xs) y → Has (take i xs) y ⊎ (x ≡ y)
taken_split xs i x y h e has =
    elim (has_split (take i xs) (x ∷ []) y (subst (λ l. Has l y) (take_more xs i x h ∙ ap (λ z. take i xs ++ z ∷ []) (sym e)) has)) [ inl l ↦ inl l | inr r ↦ (elim r [ inl s ↦ inr s | inr n ↦ absurd n ]) ]

pub got_index : {A : Type 0} (xs : List A) (i : ℕ) (x : A) → i < length xs → x ≡ get_or xs i x → slice_get xs i ≡ Some x
got_index [] i x h e = absurd (omega arith)
got_index (y ∷ ys) zero x h e = ap (λ z. Some z) (sym e)
got_index (y ∷ ys) (suc i) x h e = got_index ys i x (omega arith) e

pub taken_mapped : {A B : Type 0} (f : A → B) (xs : List A) (i : ℕ) (x : A) (y : B) → i < length xs → x ≡ get_or xs i x
    → Has (map f (take (i + 1) xs)) y → Has (map f (take i xs)) y ⊎ (f x ≡ y)
taken_mapped f xs i x y h e has =
    let t = of_map f (take (i + 1) xs) y has in
    elim (taken_split xs i x t.0 h e t.1) [
      | inl l ↦ inl (subst (λ z. Has (map f (take i xs)) z) t.2 (has_map f (take i xs) t.0 l))
      | inr same ↦ inr (ap f same ∙ t.2)
    ]

pub chains : {N : Type 0} (R : N → N → Type 0) (a b c : N) → Chain R a b → Chain R b c → Chain R a c
chains R a b c (one h) s = more b h s
chains R a b c (more d h r) s = more d h (chains R d b c r s)

-- what there is
pub some_of : {A : Type 0} (o : Option A) → is_some o ≡ true → (x : A) × (o ≡ Some x)
some_of None h = cc
some_of (Some x) h = (x, refl)
