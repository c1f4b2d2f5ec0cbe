-- Facts on lists, options and results that several crates cite.
use Rattle.std.proofs.Common.{Err, List, None, Ok, OnErr, Option, Result, Some, [], add-one, ap, arith, drop, drop-cons, get_or, inl, inr, length, map, refl, subst, suc, sym, zero, ℕ, ⊎_elim, ◌++◌, ◌+◌, ◌-◌, ◌<◌, ◌∙◌, ◌∷◌, ◌≡◌, ◌≤◌}
use Rattle.std.proofs.lemmas.Option.{slice_get-map, slice_get_cases}
use Rattle.std.specs.List.{AllByRecursion}
use Rattle.std.specs.Prelude.{IfOk, option_map, slice_get}
use Rattle.tapa_base.specs.Lists.{Has}

pub is_none_of : (o : Option ℕ) → ((v : ℕ) → o ≡ Some v → ⊥) → o ≡ None
is_none_of None h = refl
is_none_of (Some v) h = absurd (h v refl)

pub got_low : {A : Type 0} (xs : List A) (i : ℕ) (x : A) → slice_get xs i ≡ Some x → i < length xs
got_low [] i x e = cc
got_low (y ∷ ys) zero x e = omega arith
got_low (y ∷ ys) (suc i) x e = let r = got_low ys i x e in omega (arith, r)

pub next_of : {A : Type 0} (xs : List A) (i : ℕ) (x : A) → i < length xs → x ≡ get_or xs i x → drop i xs ≡ x ∷ drop (i + 1) xs
next_of xs i x h is = drop-cons xs i x h ∙ rw (← is, add-one)

pub get_drop : {A : Type 0} (l : List A) (j : ℕ) → slice_get (drop j l) 0 ≡ slice_get l j
get_drop l zero = refl
get_drop [] (suc j) = refl
get_drop (x ∷ l) (suc j) = get_drop l j

pub some_at : {A : Type 0} (xs : List A) (k : ℕ) → k < length xs → (x : A) × (slice_get xs k ≡ Some x)
some_at {A} xs k low =
    ⊎_elim {C = (x : A) × (slice_get xs k ≡ Some x)} (λ t. (t.0, t.2)) (λ t. let past : length xs ≤ k = t.0 in absurd (omega arith)) (slice_get_cases xs k).1

pub last_at : {A : Type 0} (xs : List A) (y : A) → slice_get (xs ++ y ∷ []) (length xs) ≡ Some y
last_at [] y = refl
last_at (x ∷ xs) y = last_at xs y

pub empty_of : {A : Type 0} (xs : List A) → length xs ≡ 0 → xs ≡ []
empty_of [] e = refl
empty_of (x ∷ xs) e = absurd (omega arith)

pub clash : {A : Type 0} (o : Option A) (x : A) → o ≡ None → o ≡ Some x → ⊥
clash o x e f = let g : None ≡ Some x = sym e ∙ f in cc

pub all_at : {A : Type 0} (P : A → Type 0) (xs : List A) (x : A) → AllByRecursion P xs → Has xs x → P x
all_at P [] x a h = absurd h
all_at P (y ∷ ys) x a (inl e) = subst P e a.0
all_at P (y ∷ ys) x a (inr h) = all_at P ys x a.1 h

pub all_push : {A : Type 0} (P : A → Type 0) (xs : List A) (y : A) → AllByRecursion P xs → P y → AllByRecursion P (xs ++ y ∷ [])
all_push P [] y a p = (p, tt)
all_push P (x ∷ xs) y (q, a) p = (q, all_push P xs y a p)

pub all_from : {A : Type 0} (P : A → Type 0) (xs : List A) → ((x : A) → Has xs x → P x) → AllByRecursion P xs
all_from P [] f = tt
all_from P (y ∷ ys) f = (f y (inl refl), all_from P ys (λ x h. f x (inr h)))

pub got_left : {A : Type 0} (xs ys : List A) (i : ℕ) (x : A) → slice_get xs i ≡ Some x → slice_get (xs ++ ys) i ≡ Some x
got_left [] ys i x e = cc
got_left (z ∷ zs) ys zero x e = e
got_left (z ∷ zs) ys (suc i) x e = got_left zs ys i x e

pub get_right : {A : Type 0} (xs ys : List A) (i : ℕ) (x : A) → slice_get ys i ≡ Some x → slice_get (xs ++ ys) (length xs + i) ≡ Some x
get_right {A} [] ys i x h = let z : i ≡ 0 + i = omega arith in subst (λ n. slice_get ys n ≡ Some x) z h
get_right {A} (y ∷ xs) ys i x h = let z : suc (length xs + i) ≡ suc (length xs) + i = omega arith in subst (λ n. slice_get (y ∷ xs ++ ys) n ≡ Some x) z (get_right xs ys i x h)

pub the_same : {A : Type 0} (x y : A) → Some x ≡ Some y → x ≡ y
the_same x y h = cc

pub got_map : {A B : Type 0} (f : A → B) (xs : List A) (i : ℕ) (x : A) → slice_get xs i ≡ Some x → slice_get (map f xs) i ≡ Some (f x)
got_map f xs i x e = slice_get-map f xs i ∙ ap (option_map f) e

pub of_map_got : {A B : Type 0} (f : A → B) (xs : List A) (n : ℕ) (y : B) → slice_get (map f xs) n ≡ Some y → (x : A) × (slice_get xs n ≡ Some x) × (f x ≡ y)
of_map_got f [] n y e = cc
of_map_got f (x ∷ xs) zero y e = (x, refl, cc)
of_map_got f (x ∷ xs) (suc n) y e = of_map_got f xs n y e

pub map-push : {A B : Type 0} (f : A → B) (xs : List A) (x : A) → map f (xs ++ x ∷ []) ≡ map f xs ++ f x ∷ []
map-push f [] x = refl
map-push f (y ∷ xs) x = ap (λ ys. f y ∷ ys) (map-push f xs x)

pub length_map : {A B : Type 0} (f : A → B) (xs : List A) → length (map f xs) ≡ length xs
length_map f [] = refl
length_map f (x ∷ xs) = ap suc (length_map f xs)

pub map_append : {A B : Type 0} (f : A → B) (xs ys : List A) → map f (xs ++ ys) ≡ map f xs ++ map f ys
map_append f [] ys = refl
map_append f (x ∷ xs) ys = ap (λ zs. f x ∷ zs) (map_append f xs ys)

pub map_if_ok : {A E : Type 0} (P Q : A → Type 0) (r : Result A E) → ((x : A) → P x → Q x) → IfOk r P → IfOk r Q
map_if_ok P Q (Ok x) f h = f x h
map_if_ok P Q (Err e) f h = tt

pub on_err : {T E P : Type 0} (r : Result T E) → P → OnErr r P
on_err (Ok x) p = tt
on_err (Err e) p = p
