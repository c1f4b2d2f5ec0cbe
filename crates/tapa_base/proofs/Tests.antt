-- Facts on tests and numbers that several crates cite.
use Rattle.std.proofs.Common.{Bool, ap, arith, cond, false, inl, inr, not, refl, suc, true, zero, ℕ, ⊎_elim, ◌&&◌, ◌*◌, ◌+◌, ◌-◌, ◌<◌, ◌==◌, ◌^◌, ◌||◌, ◌≡◌, ◌≢◌, ◌≤◌, ◌⊎◌}
use Rattle.std.proofs.Math.Nat.{le-min, min-le_left, min-le_right}
use Rattle.std.proofs.Math.Pow.{pow_pos}
use Rattle.std.proofs.lemmas.Bool.{cases_eq}
use Rattle.std.proofs.lemmas.Bool.Decides.{nat_tests}
use Rattle.std.proofs.lemmas.Nat.{pow-add, row_fits}
use Rattle.std.specs.Prelude.{bit_and, bit_or, if◌then◌else◌, min, nat_le, nat_lt}
use Rattle.tapa_base.specs.Kinds.{bits_of, values_of}
use Rattle.tapa_base.specs.declared.kind.Kind.{Kind}
use Rattle.tapa_base.specs.declared.kind.Kind.TheVariants as kind

pub kind_bits : (k : Kind) → (1 ≤ bits_of k) × (bits_of k ≤ 64)
kind_bits kind.Bool = (omega arith, omega arith)
kind_bits kind.I8 = (omega arith, omega arith)
kind_bits kind.U8 = (omega arith, omega arith)
kind_bits kind.I16 = (omega arith, omega arith)
kind_bits kind.U16 = (omega arith, omega arith)
kind_bits kind.I32 = (omega arith, omega arith)
kind_bits kind.U32 = (omega arith, omega arith)
kind_bits kind.I64 = (omega arith, omega arith)
kind_bits kind.U64 = (omega arith, omega arith)

pub some_values : (k : Kind) → 0 < values_of k
some_values k = pow_pos (bits_of k)

pub few_bits : (k : Kind) → bits_of k ≤ 64
few_bits kind.Bool = omega arith
few_bits kind.I8 = omega arith
few_bits kind.U8 = omega arith
few_bits kind.I16 = omega arith
few_bits kind.U16 = omega arith
few_bits kind.I32 = omega arith
few_bits kind.U32 = omega arith
few_bits kind.I64 = omega arith
few_bits kind.U64 = omega arith

pub few_by : (b : Bool) (k : ℕ) → cond b 1 (32 - k) ≤ 32
few_by true k = omega arith
few_by false k = omega arith

pub cond_low : (b : Bool) (x y n : ℕ) → x < n → y < n → cond b x y < n
cond_low true x y n h l = h
cond_low false x y n h l = l

pub bool_cases : (b : Bool) → (b ≡ true) ⊎ (b ≡ false)
bool_cases true = inl refl
bool_cases false = inr refl

pub not_no : (a : Bool) → not a ≡ false → a ≡ true
not_no true h = refl
not_no false h = cc

pub not_so : (b : Bool) → not b ≡ true → b ≡ false
not_so true h = absurd (cc)
not_so false h = refl

pub zero_left : (n : ℕ) → 0 + n ≡ n
zero_left n = omega arith

pub above_zero : (n : ℕ) → 0 < n → (n == 0) ≡ false
above_zero n pos = grind (arith, nat_tests)

pub not_below : (v : ℕ) → 1 - v < 2
not_below v = omega arith

pub both_true : (a b : Bool) → (a && b) ≡ true → (a ≡ true) × (b ≡ true)
both_true true b h = (refl, h)
both_true false b h = absurd (cc)

pub and_left : (a b : Bool) → (a && b) ≡ true → a ≡ true
and_left true b e = refl
and_left false b e = e

pub and_right : (a b : Bool) → (a && b) ≡ true → b ≡ true
and_right true b e = e
and_right false b e = absurd (cc)

pub below : (a b : ℕ) → nat_le a b ≡ true → a ≤ b
below a b h = grind (arith, nat_tests)

pub ge_of : (a b : ℕ) → nat_lt a b ≡ false → b ≤ a
ge_of a b h = grind (arith, nat_tests)

pub and_bits : (a b : ℕ) → a < 2 → b < 2 → bit_and a b ≡ a * b
and_bits zero zero l m = refl
and_bits zero (suc zero) l m = refl
and_bits (suc zero) zero l m = refl
and_bits (suc zero) (suc zero) l m = refl
and_bits (suc (suc a)) b l m = absurd (omega arith)
and_bits a (suc (suc b)) l m = absurd (omega arith)

pub or_bits : (a b : ℕ) → a < 2 → b < 2 → bit_or a b ≡ 1 - (1 - a) * (1 - b)
or_bits zero zero l m = refl
or_bits zero (suc zero) l m = refl
or_bits (suc zero) zero l m = refl
or_bits (suc zero) (suc zero) l m = refl
or_bits (suc (suc a)) b l m = absurd (omega arith)
or_bits a (suc (suc b)) l m = absurd (omega arith)

pub both_below : (a b : ℕ) → a < 2 → b < 2 → a * b < 2
both_below zero b p q = omega arith
both_below (suc zero) b p q = omega arith
both_below (suc (suc a)) b p q = absurd (omega arith)

pub differs : (a b : ℕ) → a ≢ b → (a == b) ≡ false
differs a b n = grind (arith, nat_tests)

pub middle : (a b c : Bool) → b ≡ true → (a || b || c) ≡ true
middle true b c e = refl
middle false b c e = ap (λ x. x || c) e

pub first_true : (a b c d : Bool) → (a && b && c && d) ≡ true → a ≡ true
first_true true b c d e = refl
first_true false b c d e = e

pub eq_same : (p q a b : ℕ) → (p ≡ q → a ≡ b) → (a ≡ b → p ≡ q) → (p == q) ≡ (a == b)
eq_same p q a b f g =
    ⊎_elim
    (λ (e : p ≡ q). let d = f e in grind (arith, nat_tests))
    (λ (e : p ≡ q → ⊥). let d : a ≡ b → ⊥ = λ x. e (g x) in grind (arith, nat_tests))
    (cases_eq p q)

pub join_fits : (a n j k : ℕ) → a < 2 ^ j → n < 2 ^ k → a * 2 ^ k + n < 2 ^ (j + k)
join_fits a n j k h l = joined_fits a n (2 ^ j) (2 ^ k) h l (pow-add 2 j k) where
  joined_fits : (a n p q : ℕ) {w : ℕ} → a < p → n < q → w ≡ p * q → a * q + n < w
  joined_fits a n p q h l e = let b : a * q + q ≤ p * q = row_fits a q p q h (omega arith) in omega arith

pub since : (m a b c : ℕ) → a ≤ b → min (b + 1) m ≤ c → min (a + 1) m ≤ c
since m a b c later h =
    let l = min-le_left (a + 1) m in
    let r = le-min {k = min (a + 1) m} {a = b + 1} {b = m} (omega (arith, l, later)) (min-le_right (a + 1) m) in
    omega (arith, r, h)

pub true_not_false : true ≡ false → ⊥
true_not_false h = cc

pub pick_false : {A : Type 0} (b : Bool) (x y : A) → b ≡ false → (if b then x else y) ≡ y
pick_false true x y h = cc
pick_false false x y h = refl

pub zero_one : ◌≡◌ {A = ℕ} 0 1 → ⊥
zero_one e = omega (arith, e)
