-- The value of digits, and the kinds that hold it.
use Rattle.std.proofs.Common.{◌≡◌, ℕ, ◌+◌, ◌*◌, ◌<◌, ◌≤◌, ◌^◌, Bool, true, false, cond, List, [], ◌∷◌, length, get_or, take, drop, Option, Some, None, refl, sym, ap, subst, ◌∙◌, arith, nat_eq}
use Rattle.std.proofs.lemmas.List.{drop_more}
use Rattle.std.proofs.lemmas.Bool.{ltb-true, le-ltb}
use Rattle.std.proofs.Math.Nat.{mul-le-mul_left}
use Rattle.tapa_base.specs.declared.kind.Kind.{Kind}
use Rattle.tapa_base.specs.declared.kind.Kind.TheVariants.{Bool as BoolKind, I8, U8, I16, U16, I32, U32, I64, U64}
use Rattle.tapa_base.specs.Kinds.{values_of}
use Rattle.tapa_base.specs.Gaps.{Bytes}
use Rattle.tapa_syntax.specs.Characters.{run}
use Rattle.tapa_syntax.specs.Literals.{worth, is_digit_of, value_behind, holds, first_that_holds, kinds_for, with_kind, with_suffix, Suffix, literal_of, base_of, behind_mark, suffix_of}
use Rattle.tapa_base.proofs.Got.{the_same as some_same}

-- no digit makes a value less
pub value_grows : (base n : ℕ) (z : Bytes) → 0 < base → n ≤ value_behind base n z
unfolding value_behind
value_grows base n [] some = omega arith
value_grows base n (b ∷ z) some =
    let more : n * 1 ≤ n * base = mul-le-mul_left n some in
    omega (arith, value_grows base (n * base + worth b) z some, more)

pub value_more : (base n i : ℕ) (z : Bytes) → i < length z → value_behind base n (drop i z) ≡ value_behind base (n * base + worth (get_or z i 0)) (drop (i + 1) z)
unfolding value_behind
value_more base n i z lt = rw (drop_more z i 0 lt) refl

pub too_great : (base n i : ℕ) (z : Bytes) → 0 < base → i < length z → value_behind base 0 z ≡ value_behind base n (drop i z) → (n * base + worth (get_or z i 0) < 2 ^ 64 → ⊥) → value_behind base 0 z < 2 ^ 64 → ⊥
too_great base n i z some lt so_far over fits =
    let next = so_far ∙ value_more base n i z lt in
    over (omega (arith, next, value_grows base (n * base + worth (get_or z i 0)) (drop (i + 1) z) some))

-- what no kind holds
over_all : (k : Kind) (n : ℕ) → 2 ^ 64 ≤ n → holds k n ≡ false
over_all BoolKind n le = le-ltb _ _ (omega arith)
over_all I8 n le = le-ltb _ _ (omega arith)
over_all U8 n le = le-ltb _ _ (omega arith)
over_all I16 n le = le-ltb _ _ (omega arith)
over_all U16 n le = le-ltb _ _ (omega arith)
over_all I32 n le = le-ltb _ _ (omega arith)
over_all U32 n le = le-ltb _ _ (omega arith)
over_all I64 n le = le-ltb _ _ (omega arith)
over_all U64 n le = le-ltb _ _ (omega arith)

pub none_holds : (ks : List Kind) (n : ℕ) → 2 ^ 64 ≤ n → first_that_holds n ks ≡ None
unfolding first_that_holds
none_holds [] n le = refl
none_holds (k ∷ ks) n le = rw (over_all k n le) (none_holds ks n le)

pub no_suffix_helps : (base n : ℕ) (s : Option Suffix) → 2 ^ 64 ≤ n → with_suffix base n s ≡ None
no_suffix_helps base n None le = refl
no_suffix_helps base n (Some s) le = rw (none_holds (kinds_for (nat_eq base 10) s) n le) refl

-- a kind that holds a number has it among its values
held : (k : Kind) (n : ℕ) → holds k n ≡ true → n < values_of k
held BoolKind n h = ltb-true _ _ h
held I8 n h = omega (arith, ltb-true _ _ h)
held U8 n h = ltb-true _ _ h
held I16 n h = omega (arith, ltb-true _ _ h)
held U16 n h = ltb-true _ _ h
held I32 n h = omega (arith, ltb-true _ _ h)
held U32 n h = ltb-true _ _ h
held I64 n h = omega (arith, ltb-true _ _ h)
held U64 n h = ltb-true _ _ h

first_of : (j k : Kind) (n : ℕ) (t : Bool) (more : Option Kind) → holds j n ≡ t → cond t (Some j) more ≡ Some k → (more ≡ Some k → n < values_of k) → n < values_of k
first_of j k n true more is e others = let same : j ≡ k = cc in subst (λ (x : Kind). n < values_of x) same (held j n is)
first_of j k n false more is e others = others e

pub first_holds : (ks : List Kind) (n : ℕ) (k : Kind) → first_that_holds n ks ≡ Some k → n < values_of k
unfolding first_that_holds
first_holds [] n k e = absurd cc
first_holds (j ∷ ks) n k e = first_of j k n (holds j n) (first_that_holds n ks) refl e (first_holds ks n k)

kind_of_value : (n m : ℕ) (o : Option Kind) (k : Kind) → ((j : Kind) → o ≡ Some j → n < values_of j) → with_kind n o ≡ Some (k, m) → m < values_of k
kind_of_value n m None k h e = absurd cc
kind_of_value n m (Some j) k h e =
    let same : j ≡ k = ap (λ (p : Kind × ℕ). p.0) (some_same (j, n) (k, m) e) in
    let number : n ≡ m = ap (λ (p : Kind × ℕ). p.1) (some_same (j, n) (k, m) e) in
    subst (λ (x : ℕ). x < values_of k) number (subst (λ (x : Kind). n < values_of x) same (h j refl))

value_of_suffix : (base n m : ℕ) (s : Option Suffix) (k : Kind) → with_suffix base n s ≡ Some (k, m) → m < values_of k
value_of_suffix base n m None k e = absurd cc
value_of_suffix base n m (Some s) k e = kind_of_value n m (first_that_holds n (kinds_for (nat_eq base 10) s)) k (λ j. first_holds (kinds_for (nat_eq base 10) s) n j) e

value_in : (t : Bool) (base n m : ℕ) (s : Option Suffix) (k : Kind) → cond t None (with_suffix base n s) ≡ Some (k, m) → m < values_of k
value_in true base n m s k e = absurd cc
value_in false base n m s k e = value_of_suffix base n m s k e

-- the value of a literal is one of its kind
pub literal_holds : (word : Bytes) (k : Kind) (n : ℕ) → literal_of word ≡ Some (k, n) → n < values_of k
unfolding literal_of
literal_holds word k n e =
    let base = base_of word in
    let body = behind_mark word in
    let digits = run (is_digit_of base) body in
    value_in (nat_eq digits 0) base (value_behind base 0 (take digits body)) n (suffix_of (drop digits body)) k e

in_none : (t : Bool) (o : Option (Kind × ℕ)) → o ≡ None → None ≡ cond t None o
in_none true o e = refl
in_none false o e = sym e

-- a word whose digits are worth too much is no literal
pub too_wide : (word : Bytes) (base len : ℕ) (body digits : Bytes) → base ≡ base_of word → body ≡ behind_mark word → len ≡ run (is_digit_of base) body → digits ≡ take len body
    → (value_behind base 0 digits < 2 ^ 64 → ⊥) → None ≡ literal_of word
unfolding literal_of
too_wide word base len body digits eb ey el ed over =
    let same : take len body ≡ take (run (is_digit_of (base_of word)) (behind_mark word)) (behind_mark word) = subst (λ (x : ℕ). take len body ≡ take (run (is_digit_of x) (behind_mark word)) (behind_mark word)) eb (subst (λ (y : Bytes). take len body ≡ take (run (is_digit_of base) y) y) ey (ap (λ (n : ℕ). take n body) el)) in
    let value : value_behind base 0 digits ≡ value_behind (base_of word) 0 (take (run (is_digit_of (base_of word)) (behind_mark word)) (behind_mark word)) = subst (λ (x : ℕ). value_behind base 0 digits ≡ value_behind x 0 (take (run (is_digit_of (base_of word)) (behind_mark word)) (behind_mark word))) eb (ap (value_behind base 0) (ed ∙ same)) in
    let wide : 2 ^ 64 ≤ value_behind base 0 digits = omega (arith, over) in
    in_none _ _ (no_suffix_helps _ _ _ (omega (arith, wide, value)))
