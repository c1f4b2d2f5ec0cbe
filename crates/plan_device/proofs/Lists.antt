-- Lists, and loops that have passed the first i elements of one.
use Rattle.std.proofs.Common.{◌≡◌, ℕ, zero, suc, ◌+◌, ◌<◌, ◌≤◌, List, [], ◌∷◌, ◌++◌, map, length, get_or, drop, filter, Bool, Some, None, refl, ◌∙◌, arith}
use Rattle.std.proofs.lemmas.List.{drop_all}
use Rattle.std.specs.List.{list_all, list_any, flat_map}
use Rattle.run_data.specs.Seen.{first}
use Rattle.run_data.proofs.Lists.{first-append, all-map as all_map}
use Rattle.tapa_base.proofs.Got.{next_of}

pub nothing_first : {A : Type 0} (xs : List A) → None ≡ first xs → xs ≡ []
nothing_first [] e = refl
nothing_first (x ∷ xs) e = cc

pub nothing_before : {A : Type 0} (xs ys : List A) → xs ++ ys ≡ [] → xs ≡ []
nothing_before [] ys e = refl
nothing_before (x ∷ xs) ys e = cc

pub nothing_behind : {A : Type 0} (xs ys : List A) → xs ++ ys ≡ [] → ys ≡ []
nothing_behind [] ys e = e
nothing_behind (x ∷ xs) ys e = cc

pub any_map : {A B : Type 0} (p : B → Bool) (f : A → B) (xs : List A) → list_any p (map f xs) ≡ list_any (λ x. p (f x)) xs
any_map p f [] = refl
any_map p f (x ∷ xs) = rw (any_map p f xs)

pub filter_same : {A : Type 0} (p q : A → Bool) → ((x : A) → p x ≡ q x) → (xs : List A) → filter p xs ≡ filter q xs
filter_same p q h [] = refl
filter_same p q h (x ∷ xs) = rw (h x, filter_same p q h xs)

-- the first that a list of lists has
module _ {A B : Type 0} (f : A → List B) (xs : List A) (i : ℕ) (x : A) (within : i < length xs) (is : x ≡ get_or xs i x) where
  pub flat_here : (y : B) → Some y ≡ first (f x) → first (flat_map f (drop i xs)) ≡ Some y
  flat_here y there = rw (next_of xs i x within is) (first-append (f x) (flat_map f (drop (i + 1) xs)) ∙ rw (← there))

  pub flat_later : None ≡ first (f x) → first (flat_map f (drop i xs)) ≡ first (flat_map f (drop (i + 1) xs))
  flat_later never = rw (next_of xs i x within is) (first-append (f x) (flat_map f (drop (i + 1) xs)) ∙ rw (← never))

pub flat_over : {A B : Type 0} (f : A → List B) (xs : List A) (i : ℕ) → length xs ≤ i → first (flat_map f (drop i xs)) ≡ None
flat_over f xs i h = rw (drop_all i xs h)

get_or_any : {A : Type 0} (xs : List A) (i : ℕ) (d e : A) → i < length xs → get_or xs i d ≡ get_or xs i e
get_or_any [] i d e h = absurd (omega arith)
get_or_any (x ∷ xs) zero d e h = refl
get_or_any (x ∷ xs) (suc i) d e h = get_or_any xs i d e (omega arith)

-- the same of an element as it is read
module _ {A B : Type 0} (f : A → List B) (xs : List A) (i : ℕ) (d : A) (within : i < length xs) where
  pub flat_at : (y : B) → Some y ≡ first (f (get_or xs i d)) → first (flat_map f (drop i xs)) ≡ Some y
  flat_at y there = flat_here f xs i (get_or xs i d) within (get_or_any xs i d (get_or xs i d) within) y there
