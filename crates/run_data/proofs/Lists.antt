-- The first of a list, and a loop that has passed the first i elements of one.
use Rattle.std.proofs.Common.{◌≡◌, ℕ, suc, ◌+◌, ◌<◌, ◌≤◌, List, [], ◌∷◌, ◌++◌, map, length, get_or, take, drop, filter, Bool, true, false, Option, Some, None, option_map, refl, ap, ◌∙◌, add-one, drop-cons}
use Rattle.std.proofs.lemmas.List.{take_more, drop_all}
use Rattle.std.specs.List.{list_all, list_any}
use Rattle.run_data.specs.Seen.{first}
use Rattle.tapa_base.proofs.Got.{next_of, length_map, map_append}

-- the second, where there is no first
abbrev pub or_else : {A : Type 0} → Option A → Option A → Option A
or_else None o = o
or_else (Some x) o = Some x

pub first-append : {A : Type 0} (xs ys : List A) → first (xs ++ ys) ≡ or_else (first xs) (first ys)
first-append [] ys = refl
first-append (x ∷ xs) ys = refl

pub first-map : {A B : Type 0} (f : A → B) (xs : List A) → first (map f xs) ≡ option_map f (first xs)
first-map f [] = refl
first-map f (x ∷ xs) = refl

pub map_map : {A B C : Type 0} (g : B → C) (f : A → B) (xs : List A) → map g (map f xs) ≡ map (λ x. g (f x)) xs
map_map g f [] = refl
map_map g f (x ∷ xs) = ap (λ ys. g (f x) ∷ ys) (map_map g f xs)

-- one more element
pub map_more : {A B : Type 0} (f : A → B) (xs : List A) (i : ℕ) (x : A) → i < length xs → x ≡ get_or xs i x → map f (take (i + 1) xs) ≡ map f (take i xs) ++ f x ∷ []
map_more f xs i x h is = ap (map f) (take_more xs i x h) ∙ map_append f (take i xs) (get_or xs i x ∷ []) ∙ rw (← is)

pub filter_here : {A : Type 0} (p : A → Bool) (xs : List A) (i : ℕ) (x : A) → i < length xs → x ≡ get_or xs i x → p x ≡ true → first (filter p (drop i xs)) ≡ Some x
filter_here p xs i x h is holds = rw (next_of xs i x h is, holds)

pub filter_later : {A : Type 0} (p : A → Bool) (xs : List A) (i : ℕ) (x : A) → i < length xs → x ≡ get_or xs i x → p x ≡ false → first (filter p (drop i xs)) ≡ first (filter p (drop (i + 1) xs))
filter_later p xs i x h is never = rw (next_of xs i x h is, never)

pub filter_over : {A : Type 0} (p : A → Bool) (xs : List A) (i : ℕ) → length xs ≤ i → first (filter p (drop i xs)) ≡ None
filter_over p xs i h = rw (drop_all i xs h)

pub all_here : {A : Type 0} (p : A → Bool) (xs : List A) (i : ℕ) (x : A) → i < length xs → x ≡ get_or xs i x → p x ≡ false → list_all p (drop i xs) ≡ false
all_here p xs i x h is never = rw (next_of xs i x h is, never)

pub all_later : {A : Type 0} (p : A → Bool) (xs : List A) (i : ℕ) (x : A) → i < length xs → x ≡ get_or xs i x → p x ≡ true → list_all p (drop i xs) ≡ list_all p (drop (i + 1) xs)
all_later p xs i x h is holds = rw (next_of xs i x h is, holds)

pub all_over : {A : Type 0} (p : A → Bool) (xs : List A) (i : ℕ) → length xs ≤ i → list_all p (drop i xs) ≡ true
all_over p xs i h = rw (drop_all i xs h)

pub any_here : {A : Type 0} (p : A → Bool) (xs : List A) (i : ℕ) (x : A) → i < length xs → x ≡ get_or xs i x → p x ≡ true → list_any p (drop i xs) ≡ true
any_here p xs i x h is holds = rw (next_of xs i x h is, holds)

pub any_later : {A : Type 0} (p : A → Bool) (xs : List A) (i : ℕ) (x : A) → i < length xs → x ≡ get_or xs i x → p x ≡ false → list_any p (drop i xs) ≡ list_any p (drop (i + 1) xs)
any_later p xs i x h is never = rw (next_of xs i x h is, never)

pub any_over : {A : Type 0} (p : A → Bool) (xs : List A) (i : ℕ) → length xs ≤ i → list_any p (drop i xs) ≡ false
any_over p xs i h = rw (drop_all i xs h)

pub all-map : {A B : Type 0} (p : B → Bool) (f : A → B) (xs : List A) → list_all p (map f xs) ≡ list_all (λ x. p (f x)) xs
all-map p f [] = refl
all-map p f (x ∷ xs) = rw (all-map p f xs)
