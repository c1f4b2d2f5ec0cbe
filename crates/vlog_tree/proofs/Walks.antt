-- Lists that a loop goes over, seen as what is left of them.
use Rattle.std.proofs.Common.{◌≡◌, ℕ, suc, ◌+◌, ◌<◌, ◌≤◌, Bool, true, false, cond, List, [], ◌∷◌, ◌++◌, length, get_or, drop, Option, Some, None, refl, sym, ap, ◌∙◌, append_assoc, add-one, arith, length-drop}
use Rattle.std.proofs.Math.Seq.{drop-cons}
use Rattle.std.specs.List.{flat_map}
use Rattle.vlog_tree.specs.declared.tree.Item.{Item}
use Rattle.vlog_tree.specs.declared.tree.Item.TheVariants.{Wire, Reg, Memory, Assign, Always, Instance}
use Rattle.vlog_tree.specs.Table.{Name, NameUse, first_violation, items_declared}

pub opened : {A : Type 0} (xs : List A) (i : ℕ) (x : A) → i < length xs → x ≡ get_or xs i x → drop i xs ≡ x ∷ drop (i + 1) xs
opened xs i x h e = rw add-one (drop-cons xs i x h ∙ ap (λ y. y ∷ drop (suc i) xs) (sym e))

empty_is : {A : Type 0} (xs : List A) → length xs ≤ 0 → xs ≡ []
empty_is [] h = refl
empty_is (x ∷ xs) h = absurd (omega arith)

pub over : {A : Type 0} (xs : List A) (i : ℕ) → length xs ≤ i → drop i xs ≡ []
over xs i h = empty_is (drop i xs) (simp length-drop (omega arith))

pub step : {A B : Type 0} (f : List A → B) (xs : List A) (i : ℕ) (x : A) (b : B) → i < length xs → x ≡ get_or xs i x → b ≡ f (drop i xs) → b ≡ f (x ∷ drop (i + 1) xs)
step f xs i x b h e inv = inv ∙ ap f (opened xs i x h e)

pub at_end : {A B : Type 0} (f : List A → B) (xs : List A) (i : ℕ) (b : B) → length xs ≤ i → b ≡ f (drop i xs) → b ≡ f []
at_end f xs i b h inv = inv ∙ ap f (over xs i h)

abbrev or_else : Option Name → Option Name → Option Name
or_else None b = b
or_else (Some x) b = Some x

or_else_if : (t : Bool) (x : Name) (a b : Option Name) → cond t (Some x) (or_else a b) ≡ or_else (cond t (Some x) a) b
or_else_if true x a b = refl
or_else_if false x a b = refl

pub first_violation-append : (xs ys : List NameUse) → first_violation (xs ++ ys) ≡ or_else (first_violation xs) (first_violation ys)
first_violation-append [] ys = refl
first_violation-append (u ∷ xs) ys = ap (λ o. cond u.1 (Some u.0) o) (first_violation-append xs ys) ∙ or_else_if u.1 u.0 (first_violation xs) (first_violation ys)

-- nothing wrong in the first part
pub passes : (xs ys : List NameUse) → first_violation xs ≡ None → first_violation (xs ++ ys) ≡ first_violation ys
passes xs ys e = first_violation-append xs ys ∙ ap (λ o. or_else o (first_violation ys)) e

-- the first part tells a name
pub tells : (xs ys : List NameUse) (n : Name) → first_violation xs ≡ Some n → first_violation (xs ++ ys) ≡ Some n
tells xs ys n e = first_violation-append xs ys ∙ ap (λ o. or_else o (first_violation ys)) e

module _ {A : Type 0} (f : A → List NameUse) (xs : List A) (i : ℕ) (b : Option Name) where
  pub goes_on : (x : A) → i < length xs → x ≡ get_or xs i x → first_violation (f x) ≡ None → b ≡ first_violation (flat_map f (drop i xs)) → b ≡ first_violation (flat_map f (drop (i + 1) xs))
  goes_on x h e none inv = step (λ r. first_violation (flat_map f r)) xs i x b h e inv ∙ passes (f x) (flat_map f (drop (i + 1) xs)) none

  pub found : (x : A) (n : Name) → i < length xs → x ≡ get_or xs i x → first_violation (f x) ≡ Some n → b ≡ first_violation (flat_map f (drop i xs)) → b ≡ Some n
  found x n h e some inv = step (λ r. first_violation (flat_map f r)) xs i x b h e inv ∙ tells (f x) (flat_map f (drop (i + 1) xs)) n some

  pub none_left : length xs ≤ i → b ≡ first_violation (flat_map f (drop i xs)) → b ≡ None
  none_left h inv = at_end (λ r. first_violation (flat_map f r)) xs i b h inv

pub items_declared-cons : (x : Item) (xs : List Item) → items_declared (x ∷ xs) ≡ items_declared (x ∷ []) ++ items_declared xs
items_declared-cons (Wire w x) xs = refl
items_declared-cons (Reg w x) xs = refl
items_declared-cons (Memory w x n) xs = refl
items_declared-cons (Assign x e) xs = refl
items_declared-cons (Always b) xs = refl
items_declared-cons (Instance m i connections) xs = refl

-- a list that grows by what the front of another gives
pub grows : {A B : Type 0} (f : List A → List B) (xs : List A) (i : ℕ) (x : A) (old new piece all : List B)
    → ((rest : List A) → f (x ∷ rest) ≡ piece ++ f rest) → i < length xs → x ≡ get_or xs i x → new ≡ old ++ piece → old ++ f (drop i xs) ≡ all → new ++ f (drop (i + 1) xs) ≡ all
grows f xs i x old new piece all cons h e new_is inv =
    ap (λ l. l ++ f (drop (i + 1) xs)) new_is ∙ append_assoc old piece (f (drop (i + 1) xs))
    ∙ ap (λ l. old ++ l) (sym (cons (drop (i + 1) xs))) ∙ ap (λ l. old ++ f l) (sym (opened xs i x h e)) ∙ inv
