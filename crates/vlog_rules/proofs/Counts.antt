-- Counts of which two and more are one.
use Rattle.std.proofs.Common.{◌≡◌, ℕ, ◌+◌, min, Bool, true, false, cond, List, [], ◌∷◌, ◌++◌, length, take, get_or, ◌<◌, ◌≤◌, refl, sym, ap, ◌∙◌, arith}
use Rattle.std.specs.Prelude.{◌==◌, ◌&&◌, ◌||◌, nat_le, bytes_eq, count_by}
use Rattle.std.proofs.lemmas.List.{append-nil, take_all, take_more}
use Rattle.std.proofs.lemmas.List.Sums.{sum_by-append}
use Rattle.std.specs.List.{list_all, list_any}
use Rattle.std.proofs.lemmas.List.Folds.{list_any-append}
use Rattle.std.proofs.lemmas.Bool.Decides.{nat_tests}
use Rattle.vlog_tree.specs.declared.table.Declaration.{Declaration}
use Rattle.vlog_tree.specs.Table.{Name, one_if, times_in}
use Rattle.tapa_base.proofs.Tests.{zero_left as none_more}

pub once : (n : ℕ) → (min n 2 == 1) ≡ (n == 1)
once n = grind (arith, nat_tests)

pub all_once : (f g : Name → ℕ) → ((x : Name) → f x ≡ min (g x) 2) → (ds : List Declaration) → list_all (λ (d : Declaration). f d.name == 1) ds ≡ list_all (λ (d : Declaration). g d.name == 1) ds
all_once f g e [] = refl
all_once f g e (d ∷ ds) = ap (λ b. b && list_all (λ (d : Declaration). f d.name == 1) ds) (ap (λ n. n == 1) (e d.name) ∙ once (g d.name)) ∙ ap (λ b. (g d.name == 1) && b) (all_once f g e ds)

pub none : (n : ℕ) → (min n 2 == 0) ≡ (n == 0)
none n = grind (arith, nat_tests)

pub twice : (n : ℕ) → nat_le 2 (min n 2) ≡ nat_le 2 n
twice n = grind (arith, nat_tests)

pub times-append : (names : List Name) (name x : Name) → times_in (names ++ name ∷ []) x ≡ times_in names x + cond (bytes_eq name x) 1 0
times-append names name x = sum_by-append (λ (y : Name). cond (bytes_eq y x) 1 0) names (name ∷ []) ∙ ap (λ n. times_in names x + n) (none_more (cond (bytes_eq name x) 1 0))

pub capped : (a n : ℕ) (b : Bool) → a ≡ min n 2 → cond b (min (a + 1) 2) a ≡ min (n + cond b 1 0) 2
capped a n true e = ap (λ k. min (k + 1) 2) e ∙ grind (arith, nat_tests)
capped a n false e = e ∙ grind (arith, nat_tests)

-- one more name is counted
pub one_name_more : (old new : Name → ℕ) (names : List Name) (name : Name) → ((x : Name) → new x ≡ cond (bytes_eq name x) (min (old x + 1) 2) (old x))
    → ((x : Name) → old x ≡ min (times_in names x) 2) → (x : Name) → new x ≡ min (times_in (names ++ name ∷ []) x) 2
one_name_more old new names name step e x = step x ∙ capped (old x) (times_in names x) (bytes_eq name x) (e x) ∙ ap (λ n. min n 2) (sym (times-append names name x))

pub no_name_more : (names : List Name) → names ++ [] ≡ names
no_name_more names = append-nil names

taken : {A : Type 0} (xs : List A) (i : ℕ) (x : A) → i < length xs → x ≡ get_or xs i x → take (i + 1) xs ≡ take i xs ++ x ∷ []
taken xs i x h e = take_more xs i x h ∙ ap (λ y. take i xs ++ y ∷ []) (sym e)

none_false : (a : Bool) → (a || false) ≡ a
none_false true = refl
none_false false = refl

pub any_more : {A : Type 0} (p : A → Bool) (xs : List A) (i : ℕ) (x : A) → i < length xs → x ≡ get_or xs i x → (list_any p (take i xs) || p x) ≡ list_any p (take (i + 1) xs)
any_more p xs i x h e = ap (λ b. list_any p (take i xs) || b) (sym (none_false (p x))) ∙ sym (list_any-append p (take i xs) (x ∷ [])) ∙ ap (λ l. list_any p l) (sym (taken xs i x h e))

pub count_more : {A : Type 0} (p : A → Bool) (xs : List A) (i : ℕ) (x : A) → i < length xs → x ≡ get_or xs i x → count_by p (take i xs) + one_if (p x) ≡ count_by p (take (i + 1) xs)
count_more p xs i x h e =
    ap (λ n. count_by p (take i xs) + n) (sym (none_more (one_if (p x)))) ∙ sym (sum_by-append (λ y. cond (p y) 1 0) (take i xs) (x ∷ [])) ∙ ap (λ l. count_by p l) (sym (taken xs i x h e))

pub all_taken : {A : Type 0} (xs : List A) (i : ℕ) → length xs ≤ i → take i xs ≡ xs
all_taken xs i h = take_all i xs h
