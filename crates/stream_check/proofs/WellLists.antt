-- Lists, place by place.
use Rattle.std.proofs.Common.{◌≡◌, ◌+◌, ℕ, zero, suc, List, [], ◌∷◌, ◌++◌, length, map, Bool, true, false, not, ◌&&◌, Some, None, refl, ap, subst, arith}
use Rattle.std.specs.Prelude.{slice_get}
use Rattle.check_scope.specs.declared.fault.Broken.{Broken}
use Rattle.check_scope.specs.Faults.{where_so}
use Rattle.tapa_base.proofs.Got.{got_left as get_left, get_right, the_same, got_map as get_map, of_map_got as get_unmap, length_map}

pub nothing : {A : Type 0} (x : A) → None ≡ Some x → ⊥
nothing x h = cc

-- two lists of faults that are none together
pub no_faults : (xs ys : List Broken) → xs ++ ys ≡ [] → (xs ≡ []) × (ys ≡ [])
no_faults [] ys h = (refl, h)
no_faults (x ∷ xs) ys h = absurd (cc)

pub holds : (b : Bool) (x : Broken) → where_so (not b) (x ∷ []) ≡ [] → b ≡ true
holds true x h = refl
holds false x h = absurd (cc)

pub holds_not : (b : Bool) (x : Broken) → where_so b (x ∷ []) ≡ [] → b ≡ false
holds_not true x h = absurd (cc)
holds_not false x h = refl

-- every element of a list
abbrev pub Each : {A : Type 0} → (A → Type 0) → List A → Type 0
Each P [] = Unit {0}
Each P (x ∷ xs) = P x × Each P xs

pub each_append : {A : Type 0} (P : A → Type 0) (xs ys : List A) → Each P xs → Each P ys → Each P (xs ++ ys)
each_append P [] ys a b = b
each_append P (x ∷ xs) ys (p, a) b = (p, each_append P xs ys a b)

pub each_more : {A : Type 0} (P Q : A → Type 0) → ((x : A) → P x → Q x) → (xs : List A) → Each P xs → Each Q xs
each_more P Q f [] a = tt
each_more P Q f (x ∷ xs) (p, a) = (f x p, each_more P Q f xs a)

pub each_get : {A : Type 0} (P : A → Type 0) (xs : List A) (i : ℕ) (x : A) → Each P xs → slice_get xs i ≡ Some x → P x
each_get P [] i x a h = absurd (nothing x h)
each_get P (y ∷ xs) zero x (p, a) h = subst P (the_same y x h) p
each_get P (y ∷ xs) (suc i) x (p, a) h = each_get P xs i x a h

pub get_last : {A : Type 0} (xs : List A) (x : A) (n : ℕ) → n ≡ length xs → slice_get (xs ++ x ∷ []) n ≡ Some x
get_last xs x n e = let z : length xs + 0 ≡ n = omega arith in subst (λ m. slice_get (xs ++ x ∷ []) m ≡ Some x) z (get_right xs (x ∷ []) 0 x refl)

-- the elements of a list stand in another from a place on
abbrev pub Contains : {A : Type 0} → List A → ℕ → List A → Type 0
Contains {A} whole n xs = (i : ℕ) (x : A) → slice_get xs i ≡ Some x → slice_get whole (n + i) ≡ Some x

pub contains_left : {A : Type 0} (whole : List A) (n : ℕ) (xs ys : List A) → Contains whole n (xs ++ ys) → Contains whole n xs
contains_left whole n xs ys c i x h = c i x (get_left xs ys i x h)

pub contains_right : {A : Type 0} (whole : List A) (n : ℕ) (xs ys : List A) → Contains whole n (xs ++ ys) → Contains whole (n + length xs) ys
contains_right whole n xs ys c i x h = let z : n + (length xs + i) ≡ n + length xs + i = omega arith in subst (λ m. slice_get whole m ≡ Some x) z (c (length xs + i) x (get_right xs ys i x h))

-- two lists, element by element
abbrev pub Pairs : {A B : Type 0} → (A → B → Type 0) → List A → List B → Type 0
Pairs P [] [] = Unit {0}
Pairs P [] (y ∷ ys) = ⊥
Pairs P (x ∷ xs) [] = ⊥
Pairs P (x ∷ xs) (y ∷ ys) = P x y × Pairs P xs ys

pub pairs_length : {A B : Type 0} (P : A → B → Type 0) (xs : List A) (ys : List B) → Pairs P xs ys → length xs ≡ length ys
pairs_length P [] [] h = refl
pairs_length P [] (y ∷ ys) h = absurd h
pairs_length P (x ∷ xs) [] h = absurd h
pairs_length P (x ∷ xs) (y ∷ ys) h = ap suc (pairs_length P xs ys h.1)

pub pairs_get : {A B : Type 0} (P : A → B → Type 0) (xs : List A) (ys : List B) (i : ℕ) (x : A) (y : B) → Pairs P xs ys → slice_get xs i ≡ Some x → slice_get ys i ≡ Some y → P x y
pairs_get P [] ys i x y h a b = absurd (nothing x a)
pairs_get P (u ∷ xs) [] i x y h a b = absurd h
pairs_get P (u ∷ xs) (v ∷ ys) zero x y h a b = subst (λ z. P z y) (the_same u x a) (subst (P u) (the_same v y b) h.0)
pairs_get P (u ∷ xs) (v ∷ ys) (suc i) x y h a b = pairs_get P xs ys i x y h.1 a b

pub pairs_left : {A B : Type 0} (P : A → B → Type 0) (xs : List A) (ys : List B) (i : ℕ) (y : B) → Pairs P xs ys → slice_get ys i ≡ Some y → (x : A) × (slice_get xs i ≡ Some x) × P x y
pairs_left P xs [] i y h b = absurd (nothing y b)
pairs_left P [] (v ∷ ys) i y h b = absurd h
pairs_left P (u ∷ xs) (v ∷ ys) zero y h b = (u, refl, subst (P u) (the_same v y b) h.0)
pairs_left P (u ∷ xs) (v ∷ ys) (suc i) y h b = pairs_left P xs ys i y h.1 b

pub pairs_push : {A B : Type 0} (P : A → B → Type 0) (xs : List A) (ys : List B) (x : A) (y : B) → Pairs P xs ys → P x y → Pairs P (xs ++ x ∷ []) (ys ++ y ∷ [])
pairs_push P [] [] x y h p = (p, tt)
pairs_push P [] (v ∷ ys) x y h p = absurd h
pairs_push P (u ∷ xs) [] x y h p = absurd h
pairs_push P (u ∷ xs) (v ∷ ys) x y h p = (h.0, pairs_push P xs ys x y h.1 p)

pub pairs_more : {A B : Type 0} (P Q : A → B → Type 0) → ((x : A) (y : B) → P x y → Q x y) → (xs : List A) (ys : List B) → Pairs P xs ys → Pairs Q xs ys
pairs_more P Q f [] [] h = tt
pairs_more P Q f [] (y ∷ ys) h = absurd h
pairs_more P Q f (x ∷ xs) [] h = absurd h
pairs_more P Q f (x ∷ xs) (y ∷ ys) h = (f x y h.0, pairs_more P Q f xs ys h.1)

pub pairs_right : {A B : Type 0} (P : A → B → Type 0) (xs : List A) (ys : List B) (i : ℕ) (x : A) → Pairs P xs ys → slice_get xs i ≡ Some x → (y : B) × (slice_get ys i ≡ Some y) × P x y
pairs_right P [] ys i x h a = absurd (nothing x a)
pairs_right P (u ∷ xs) [] i x h a = absurd h
pairs_right P (u ∷ xs) (v ∷ ys) zero x h a = (v, refl, subst (λ z. P z v) (the_same u x a) h.0)
pairs_right P (u ∷ xs) (v ∷ ys) (suc i) x h a = pairs_right P xs ys i x h.1 a
