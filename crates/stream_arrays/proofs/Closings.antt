-- From a lexeme to the parenthesis that closes what is open, by way of the lexemes behind it.
use Rattle.std.proofs.Common.{◌≡◌, ℕ, zero, suc, ◌+◌, ◌-◌, ◌<◌, ◌≤◌, Bool, true, false, cond, List, [], ◌∷◌, length, take, drop, set, replicate, Option, Some, None, refl, sym, ap, ◌∙◌, arith, zero-add, add-one, length-drop, get_or, drop-cons}
use Rattle.std.specs.Prelude.{option_map, option_and_then, slice_get, nat_le, ◌==◌, ◌&&◌}
use Rattle.std.proofs.lemmas.Bool.Decides.{nat_tests}
use Rattle.std.proofs.lemmas.List.{drop-drop, drop_all, take_all, length-replicate, get_or-replicate}
use Rattle.tapa_base.proofs.Lists.{got_index}
use Rattle.std.proofs.lemmas.Option.{slice_get_past}
use Rattle.tapa_base.specs.Gaps.{Bytes}
use Rattle.tapa_syntax.specs.declared.lexeme.Lexeme.{Lexeme}
use Rattle.tapa_syntax.specs.declared.terminal.Terminal.TheVariants as terminal
use Rattle.stream_arrays.specs.Standing.{is}
use Rattle.stream_arrays.specs.Forms.{inside_size, open_behind}
use Rattle.stream_arrays.specs.Reading.{AreClosings}
use Rattle.tapa_base.proofs.Tests.{above_zero as nonzero}

-- behind a parenthesis that closes, where more are open, another one closes
abbrev pub behind : Bytes → ℕ → List Lexeme → Option ℕ → Option ℕ
behind text o ls n = option_and_then (λ k. option_map (λ m. suc (k + m)) (inside_size text o (drop (suc k) ls))) n

one_behind : (text : Bytes) (o : ℕ) (l : Lexeme) (ls : List Lexeme) (n : Option ℕ) → option_map suc (behind text o ls n) ≡ behind text o (l ∷ ls) (option_map suc n)
one_behind text o l ls None = refl
one_behind text o l ls (Some k) = by (inside_size text o (drop (suc k) ls))
  where
    by : (r : Option ℕ) → option_map suc (option_map (λ m. suc (k + m)) r) ≡ option_map (λ m. suc (suc k + m)) r
    by None = refl
    by (Some m) = let e : suc (suc (k + m)) ≡ suc (suc k + m) = omega arith in ap (λ n. Some n) e

-- what one lexeme does, by whether it closes and whether it opens
abbrev step : Bytes → List Lexeme → Bool → Bool → ℕ → Option ℕ
step text ls r p n = cond (r && (n == 0)) (Some 0) (option_map suc (inside_size text (cond r (n - 1) (cond p (suc n) n)) ls))

closes_some : (text : Bytes) (ls : List Lexeme) (p : Bool) (n : ℕ) → 0 < n → step text ls true p n ≡ option_map suc (inside_size text (n - 1) ls)
closes_some text ls p n h = ap (λ t. cond t (Some 0) (option_map suc (inside_size text (n - 1) ls))) (nonzero n h)

by_first : (text : Bytes) (o : ℕ) (ls : List Lexeme) (l : Lexeme) → ((b : ℕ) → inside_size text (b + suc o) ls ≡ behind text o ls (inside_size text b ls))
    → (r p : Bool) (a : ℕ) → step text ls r p (a + suc o) ≡ behind text o (l ∷ ls) (step text ls r p a)
by_first text o ls l further true p zero =
    closes_some text ls p (0 + suc o) (omega arith)
    ∙ ap (λ n. option_map suc (inside_size text n ls)) (let e : 0 + suc o - 1 ≡ o = omega arith in e)
    ∙ by (inside_size text o ls)
  where
    by : (r : Option ℕ) → option_map suc r ≡ option_map (λ m. suc (0 + m)) r
    by None = refl
    by (Some m) = let e : suc m ≡ suc (0 + m) = omega arith in ap (λ n. Some n) e
by_first text o ls l further true p (suc b) =
    closes_some text ls p (suc b + suc o) (omega arith)
    ∙ ap (λ n. option_map suc (inside_size text n ls)) (let e : suc b + suc o - 1 ≡ b + suc o = omega arith in e)
    ∙ ap (option_map suc) (further b)
    ∙ one_behind text o l ls (inside_size text b ls)
    ∙ ap (behind text o (l ∷ ls)) (sym (closes_some text ls p (suc b) (omega arith) ∙ ap (λ n. option_map suc (inside_size text n ls)) (let e : suc b - 1 ≡ b = omega arith in e)))
by_first text o ls l further false true a =
    ap (λ n. option_map suc (inside_size text n ls)) (let e : suc (a + suc o) ≡ suc a + suc o = omega arith in e)
    ∙ ap (option_map suc) (further (suc a))
    ∙ one_behind text o l ls (inside_size text (suc a) ls)
by_first text o ls l further false false a = ap (option_map suc) (further a) ∙ one_behind text o l ls (inside_size text a ls)

pub two_levels : (text : Bytes) (a o : ℕ) (ls : List Lexeme) → inside_size text (a + suc o) ls ≡ behind text o ls (inside_size text a ls)
two_levels text a o [] = refl
two_levels text a o (l ∷ ls) = by_first text o ls l (λ b. two_levels text b o ls) (is text terminal.RightParen l) (is text terminal.LeftParen l) a

-- the parenthesis stands among the lexemes
pub inside_bound : (text : Bytes) (a : ℕ) (ls : List Lexeme) (k : ℕ) → inside_size text a ls ≡ Some k → k < length ls
inside_bound text a [] k e = absurd (cc)
inside_bound text a (l ∷ ls) k e = by (is text terminal.RightParen l && (a == 0)) (inside_size text (open_behind text a l) ls) (λ m f. inside_bound text (open_behind text a l) ls m f) e
  where
    by : (t : Bool) (n : Option ℕ) → ((m : ℕ) → n ≡ Some m → m < length ls) → cond t (Some 0) (option_map suc n) ≡ Some k → k < suc (length ls)
    by true n h f = let g : 0 ≡ k = cc in omega arith
    by false None h f = absurd (cc)
    by false (Some m) h f = let g : suc m ≡ k = cc in let b : m < length ls = h m refl in omega arith

-- a parenthesis opens here, and two have to be closed
pub at_open : (text : Bytes) (l : Lexeme) (ls : List Lexeme) → is text terminal.RightParen l ≡ false → is text terminal.LeftParen l ≡ true → inside_size text 0 (l ∷ ls) ≡ option_map suc (behind text 0 ls (inside_size text 0 ls))
at_open text l ls r p =
    ap (λ t. cond (t && (0 == 0)) (Some 0) (option_map suc (inside_size text (cond t (0 - 1) (cond (is text terminal.LeftParen l) 1 0)) ls))) r
    ∙ ap (λ t. option_map suc (inside_size text (cond t 1 0) ls)) p
    ∙ ap (option_map suc) (two_levels text 0 0 ls)

pub at_other : (text : Bytes) (l : Lexeme) (ls : List Lexeme) → is text terminal.RightParen l ≡ false → is text terminal.LeftParen l ≡ false → inside_size text 0 (l ∷ ls) ≡ option_map suc (inside_size text 0 ls)
at_other text l ls r p =
    ap (λ t. cond (t && (0 == 0)) (Some 0) (option_map suc (inside_size text (cond t (0 - 1) (cond (is text terminal.LeftParen l) 1 0)) ls))) r
    ∙ ap (λ t. option_map suc (inside_size text (cond t 1 0) ls)) p

pub at_close : (text : Bytes) (l : Lexeme) (ls : List Lexeme) → is text terminal.RightParen l ≡ true → inside_size text 0 (l ∷ ls) ≡ Some 0
at_close text l ls r = ap (λ t. cond (t && (0 == 0)) (Some 0) (option_map suc (inside_size text (cond t (0 - 1) (cond (is text terminal.LeftParen l) 1 0)) ls))) r

-- ---- tables

pub got_behind : {A : Type 0} (n i : ℕ) (xs : List A) → slice_get (drop n xs) i ≡ slice_get xs (n + i)
got_behind zero i xs = ap (slice_get xs) (sym (zero-add i))
got_behind (suc n) i [] = refl
got_behind (suc n) i (x ∷ xs) = got_behind n i xs ∙ ap (slice_get (x ∷ xs)) (let e : suc (n + i) ≡ suc n + i = omega arith in e)

pub table_behind : (text : Bytes) (ls : List Lexeme) (table : List (Option ℕ)) (n : ℕ) → length table ≡ suc (length ls) → n ≤ length ls
    → ((i : ℕ) → n ≤ i → i ≤ length ls → slice_get table i ≡ Some (inside_size text 0 (drop i ls))) → AreClosings text (drop n ls) (drop n table)
table_behind text ls table n size within known = (
  let e : length (drop n table) ≡ length table - n = length-drop n table in let f : length (drop n ls) ≡ length ls - n = length-drop n ls in omega arith,
  λ i h. got_behind n i table ∙ known (n + i) (omega arith) (let f : length (drop n ls) ≡ length ls - n = length-drop n ls in omega arith) ∙ ap (λ z. Some (inside_size text 0 z)) (sym (drop-drop i n ls)),
)

-- what a table tells at a place, or behind its end
pub table_at : (text : Bytes) (ls : List Lexeme) (table : List (Option ℕ)) (n : ℕ) → AreClosings text ls table → option_and_then (λ (o : Option ℕ). o) (slice_get table n) ≡ inside_size text 0 (drop n ls)
table_at text ls table n h = by (nat_le n (length ls)) refl
  where
    by : (t : Bool) → nat_le n (length ls) ≡ t → option_and_then (λ (o : Option ℕ). o) (slice_get table n) ≡ inside_size text 0 (drop n ls)
    by true e = ap (option_and_then (λ (o : Option ℕ). o)) (h.1 n (grind (arith, nat_tests)))
    by false e =
        let past : length ls < n = grind (arith, nat_tests) in
        ap (option_and_then (λ (o : Option ℕ). o)) (slice_get_past table n (let s : length table ≡ suc (length ls) = h.0 in omega arith))
        ∙ ap (inside_size text 0) (sym (drop_all n ls (omega arith)))

-- what is told of a lexeme, by what is told behind it
pub at_none : (text : Bytes) (l : Lexeme) (ls : List Lexeme) → is text terminal.RightParen l ≡ false → inside_size text 0 ls ≡ None → inside_size text 0 (l ∷ ls) ≡ None
at_none text l ls r e = by (is text terminal.LeftParen l) refl
  where
    by : (t : Bool) → is text terminal.LeftParen l ≡ t → inside_size text 0 (l ∷ ls) ≡ None
    by true p = at_open text l ls r p ∙ ap (λ n. option_map suc (behind text 0 ls n)) e
    by false p = at_other text l ls r p ∙ ap (option_map suc) e

pub open_none : (text : Bytes) (l : Lexeme) (ls : List Lexeme) (k : ℕ) → is text terminal.RightParen l ≡ false → is text terminal.LeftParen l ≡ true → inside_size text 0 ls ≡ Some k → inside_size text 0 (drop (k + 1) ls) ≡ None
    → inside_size text 0 (l ∷ ls) ≡ None
open_none text l ls k r p e f =
    at_open text l ls r p ∙ ap (λ n. option_map suc (behind text 0 ls n)) e
    ∙ ap (λ n. option_map suc (option_map (λ m. suc (k + m)) n)) (ap (λ n. inside_size text 0 (drop n ls)) (sym (add-one k)) ∙ f)

pub open_some : (text : Bytes) (l : Lexeme) (ls : List Lexeme) (k m : ℕ) → is text terminal.RightParen l ≡ false → is text terminal.LeftParen l ≡ true → inside_size text 0 ls ≡ Some k
    → inside_size text 0 (drop (k + 1) ls) ≡ Some m → inside_size text 0 (l ∷ ls) ≡ Some (k + m + 2)
open_some text l ls k m r p e f =
    at_open text l ls r p ∙ ap (λ n. option_map suc (behind text 0 ls n)) e
    ∙ ap (λ n. option_map suc (option_map (λ m. suc (k + m)) n)) (ap (λ n. inside_size text 0 (drop n ls)) (sym (add-one k)) ∙ f)
    ∙ ap (λ n. Some n) (let g : suc (suc (k + m)) ≡ k + m + 2 = omega arith in g)

pub other_some : (text : Bytes) (l : Lexeme) (ls : List Lexeme) (k : ℕ) → is text terminal.RightParen l ≡ false → is text terminal.LeftParen l ≡ false → inside_size text 0 ls ≡ Some k → inside_size text 0 (l ∷ ls) ≡ Some (k + 1)
other_some text l ls k r p e = at_other text l ls r p ∙ ap (option_map suc) e ∙ ap (λ n. Some n) (sym (add-one k))

-- where two parentheses are closed behind a lexeme, all is among the lexemes
pub two_bounds : (text : Bytes) (ls : List Lexeme) (k m : ℕ) → inside_size text 0 ls ≡ Some k → inside_size text 0 (drop (k + 1) ls) ≡ Some m → k + m + 2 ≤ length ls
two_bounds text ls k m e f =
    let a : k < length ls = inside_bound text 0 ls k e in
    let b : m < length (drop (k + 1) ls) = inside_bound text 0 (drop (k + 1) ls) m f in
    let s : length (drop (k + 1) ls) ≡ length ls - (k + 1) = length-drop (k + 1) ls in
    omega arith

got_set : {A : Type 0} (xs : List A) (i : ℕ) (v : A) → i < length xs → slice_get (set xs i v) i ≡ Some v
got_set [] i v h = absurd (omega arith)
got_set (x ∷ xs) zero v h = refl
got_set (x ∷ xs) (suc i) v h = got_set xs i v (omega arith)

got_set_behind : {A : Type 0} (xs : List A) (i j : ℕ) (v : A) → i < j → slice_get (set xs i v) j ≡ slice_get xs j
got_set_behind [] i j v h = refl
got_set_behind (x ∷ xs) zero zero v h = absurd (omega arith)
got_set_behind (x ∷ xs) zero (suc j) v h = refl
got_set_behind (x ∷ xs) (suc i) zero v h = absurd (omega arith)
got_set_behind (x ∷ xs) (suc i) (suc j) v h = got_set_behind xs i j v (omega arith)

abbrev pub blank : Option ℕ
blank = None

-- an empty table tells of the end
pub blank_at : (text : Bytes) (ls : List Lexeme) (table : List (Option ℕ)) → table ≡ replicate (length ls + 1) blank → (i : ℕ) → length ls ≤ i → i ≤ length ls → slice_get table i ≡ Some (inside_size text 0 (drop i ls))
blank_at text ls table e i a b =
    ap (λ z. slice_get z i) e
    ∙ got_index (replicate (length ls + 1) blank) i blank (omega (arith, length-replicate (length ls + 1) blank)) (sym (get_or-replicate (length ls + 1) i blank blank (omega arith)))
    ∙ ap (λ z. Some (inside_size text 0 z)) (sym (drop_all i ls a))

-- one lexeme more is told of
pub one_told : (text : Bytes) (ls : List Lexeme) (table : List (Option ℕ)) (at : ℕ) (v : Option ℕ) → at < length ls → length table ≡ suc (length ls)
    → ((i : ℕ) → at + 1 ≤ i → i ≤ length ls → slice_get table i ≡ Some (inside_size text 0 (drop i ls))) → v ≡ inside_size text 0 (drop at ls)
    → (i : ℕ) → at ≤ i → i ≤ length ls → slice_get (set table at v) i ≡ Some (inside_size text 0 (drop i ls))
one_told text ls table at v h size known e i a b = by (nat_le i at) refl
  where
    by : (t : Bool) → nat_le i at ≡ t → slice_get (set table at v) i ≡ Some (inside_size text 0 (drop i ls))
    by true t =
        let same : i ≡ at = (let k : i ≤ at = grind (arith, nat_tests) in omega arith) in
        ap (slice_get (set table at v)) same ∙ got_set table at v (omega arith) ∙ ap (λ z. Some z) e ∙ ap (λ k. Some (inside_size text 0 (drop k ls))) (sym same)
    by false t = let k : at < i = grind (arith, nat_tests) in got_set_behind table at i v k ∙ known i (omega arith) b

pub tail_is : {A : Type 0} (k : ℕ) (xs : List A) → take (length xs - k) (drop k xs) ≡ drop k xs
tail_is k xs = take_all (length xs - k) (drop k xs) (let e : length (drop k xs) ≡ length xs - k = length-drop k xs in omega arith)

-- what is told of one lexeme is told of those from it on
pub told_here : (text : Bytes) (ls : List Lexeme) (at : ℕ) (d : Lexeme) (v : Option ℕ) → at < length ls → v ≡ inside_size text 0 (get_or ls at d ∷ take (length ls - (at + 1)) (drop (at + 1) ls)) → v ≡ inside_size text 0 (drop at ls)
told_here text ls at d v h e =
    e ∙ ap (λ z. inside_size text 0 (get_or ls at d ∷ z)) (tail_is (at + 1) ls ∙ ap (λ k. drop k ls) (add-one at)) ∙ ap (inside_size text 0) (sym (drop-cons ls at d h))
