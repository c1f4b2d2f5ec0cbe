-- Numbers cut to fewer bits.
use Rattle.std.proofs.Common.{◌≡◌, ℕ, zero, suc, ◌+◌, ◌-◌, ◌*◌, ◌/◌, ◌%◌, ◌^◌, ◌<◌, ◌≤◌, sym, ap, ◌∙◌, arith}
use Rattle.std.proofs.Math.Nat.{mod-eq_of_lt, div-eq_of_lt, mul-mod_left, div-zero, mod-zero, add-mod_right}
use Rattle.std.proofs.lemmas.Nat.{pow-add}
use Rattle.std.proofs.Math.Pow.{mod-mod-pow, pow_pos, pow_mono}

-- what is cut to 128 bits and then to fewer is cut to the fewer
pub cut_twice : (n w : ℕ) → w ≤ 128 → n % 2 ^ 128 % 2 ^ w ≡ n % 2 ^ w
cut_twice n w h = let e : (128 - w) + w ≡ 128 = omega arith in ap (λ k. n % 2 ^ k % 2 ^ w) (sym e) ∙ mod-mod-pow n (128 - w) w

product : (a p q : ℕ) → a * (p * q) ≡ (a * p) * q
product a p q = grind arith

-- what is shifted past its last bit is gone
pub all_gone : (a b w : ℕ) → w ≤ b → 0 ≡ a * 2 ^ b % 2 ^ w
all_gone a b w h =
    let e : (b - w) + w ≡ b = omega arith in
    let s : a * 2 ^ b ≡ (a * 2 ^ (b - w)) * 2 ^ w = ap (λ k. a * 2 ^ k) (sym e) ∙ ap (λ k. a * k) (pow-add 2 (b - w) w) ∙ product a (2 ^ (b - w)) (2 ^ w) in
    sym (ap (λ k. k % 2 ^ w) s ∙ mul-mod_left (a * 2 ^ (b - w)) (2 ^ w))

pub nothing_left : (a b : ℕ) → a < 2 ^ 128 → 128 ≤ b → 0 ≡ a / 2 ^ b
nothing_left a b h k = let m : 2 ^ 128 ≤ 2 ^ b = pow_mono k in let low : a < 2 ^ b = omega arith in sym (div-eq_of_lt low)

pub highest_is : (w : ℕ) → w ≤ 128 → 128 ≤ w → 340282366920938463463374607431768211455 ≡ 2 ^ w - 1
highest_is w h k = let e : 128 ≡ w = omega arith in ap (λ n. 2 ^ n - 1) e

-- a difference of what does not fit is cut too
pub stays : (a b w : ℕ) → b ≤ a → (a - b) % 2 ^ w ≡ (a + 2 ^ w - b) % 2 ^ w
stays a b w h = let e : a + 2 ^ w - b ≡ (a - b) + 2 ^ w = omega arith in sym (ap (λ k. k % 2 ^ w) e ∙ add-mod_right (a - b) (2 ^ w))

-- a difference that would be below 0
pub wraps : (a b w : ℕ) → a < b → (2 ^ w - 1) - (b - a - 1) ≡ (a + 2 ^ w - b) % 2 ^ w
wraps a b w h = let p : 0 < 2 ^ w = pow_pos w in let low : a + 2 ^ w - b < 2 ^ w = omega arith in let e : (2 ^ w - 1) - (b - a - 1) ≡ a + 2 ^ w - b = omega arith in e ∙ sym (mod-eq_of_lt low)

pub over_none : (a b : ℕ) → b ≡ 0 → 0 ≡ a / b
over_none a b e = sym (ap (λ k. a / k) e ∙ div-zero a)

pub left_of_none : (a b : ℕ) → b ≡ 0 → a ≡ a % b
left_of_none a b e = sym (ap (λ k. a % k) e ∙ mod-zero a)

-- a part that reaches past all bits
pub all_in : (n w : ℕ) → n < 2 ^ 128 → 128 ≤ w → n ≡ n % 2 ^ w
all_in n w h k = let m : 2 ^ 128 ≤ 2 ^ w = pow_mono k in let low : n < 2 ^ w = omega arith in sym (mod-eq_of_lt low)

pub least : (n p : ℕ) → 0 < n → p ≤ n * p
least zero p h = absurd (omega arith)
least (suc n) p h = grind arith
