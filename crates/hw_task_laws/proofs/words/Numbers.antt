-- The number that a word stands for, and the word of a number.
use Rattle.std.proofs.Common.{◌≡◌, ℕ, zero, suc, ◌+◌, ◌-◌, ◌*◌, ◌/◌, ◌%◌, ◌<◌, ◌≤◌, true, false, cond, ◌&&◌, refl, sym, ap, ◌∙◌, arith}
use Rattle.std.specs.Prelude.{pos, negsuc, ◌-ℤ◌, nat_le}
use Rattle.std.proofs.Math.Nat.{mod-eq_of_lt}
use Rattle.std.proofs.Math.Arith.{digits_mod}
use Rattle.std.proofs.lemmas.Bool.{lt-ltb, leb-true, leb-false}
use Rattle.std.proofs.lemmas.Nat.{div-mul-add, div-add-mod'}
use Rattle.tapa_base.specs.declared.kind.Kind.{Kind}
use Rattle.tapa_base.specs.declared.kind.Kind.TheVariants as kind
use Rattle.tapa_base.specs.Kinds.{is_signed, values_of, number, residue}
use Rattle.hw_task_laws.specs.words.Words.{half_of, is_negative}
use Rattle.tapa_base.proofs.Tests.{both_true as both_of}

minus_is : (a v : ℕ) → a < v → pos a -ℤ pos v ≡ negsuc (v - a - 1)
minus_is a zero h = absurd (omega arith)
minus_is a (suc m) h = let same : suc m - suc a ≡ suc m - a - 1 = omega arith in ap (λ b. cond b (negsuc (suc m - suc a)) (pos (a - suc m))) (lt-ltb a (suc m) h) ∙ ap negsuc same

pub number_plain : (k : Kind) (a : ℕ) → is_negative k a ≡ false → number k a ≡ pos a
number_plain k a e = ap (λ b. cond b (pos a -ℤ pos (values_of k)) (pos a)) e

pub number_negative : (k : Kind) (a : ℕ) → a < values_of k → is_negative k a ≡ true → number k a ≡ negsuc (values_of k - a - 1)
number_negative k a h e = ap (λ b. cond b (pos a -ℤ pos (values_of k)) (pos a)) e ∙ minus_is a (values_of k) h

-- a signed kind has as many negative numbers as others
pub two_halves : (k : Kind) → is_signed k ≡ true → values_of k ≡ half_of k + half_of k
two_halves kind.I8 e = refl
two_halves kind.I16 e = refl
two_halves kind.I32 e = refl
two_halves kind.I64 e = refl
two_halves _ e = cc

pub negative_high : (k : Kind) (a : ℕ) → is_negative k a ≡ true → (half_of k ≤ a) × (is_signed k ≡ true)
negative_high k a e = let p = both_of (is_signed k) (nat_le (half_of k) a) e in (leb-true (half_of k) a p.1, p.0)

pub plain_low : (k : Kind) (a : ℕ) → is_signed k ≡ true → is_negative k a ≡ false → a < half_of k
plain_low k a s e = leb-false (half_of k) a (sym (ap (λ b. b && nat_le (half_of k) a) s) ∙ e)

-- the remainder of a number from the other end
pub turned_remainder : (q m a : ℕ) → 0 < m → a < q * m → m - 1 - (q * m - a - 1) % m ≡ a % m
turned_remainder q m a some h =
    let parts : a / m * m + a % m ≡ a = div-add-mod' a m in
    let low : a % m < m = omega arith in
    let inside : a / m < q = below (a / m) q m (omega (arith, parts, h)) in
    let split : q * m ≡ (q - 1 - a / m) * m + (a / m * m + m) = whole q (a / m) m inside in
    let back : q * m - a - 1 ≡ (q - 1 - a / m) * m + (m - 1 - a % m) = omega (arith, parts, low, split) in
    let r : (q * m - a - 1) % m ≡ m - 1 - a % m = ap (λ z. z % m) back ∙ digits_mod (q - 1 - a / m) (let l : m - 1 - a % m < m = omega (arith, low) in l) in
    omega (arith, r, low) where
      below : (c q m : ℕ) → c * m < q * m → c < q
      below c q m h = grind (arith, h)

      whole : (q c m : ℕ) → c < q → q * m ≡ (q - 1 - c) * m + (c * m + m)
      whole q c m h = let e : q ≡ (q - 1 - c) + c + 1 = omega arith in ap (λ z. z * m) e ∙ spread (q - 1 - c) c m where
        spread : (x y m : ℕ) → (x + y + 1) * m ≡ x * m + (y * m + m)
        spread x y m = omega arith

pub residue_low : (m n : ℕ) → n < m → residue m (pos n) ≡ n
residue_low m n h = mod-eq_of_lt h

pub residue_back : (m n : ℕ) → n < m → residue m (negsuc n) ≡ m - 1 - n
residue_back m n h = ap (λ z. m - 1 - z) (mod-eq_of_lt h)

pub quotient_none : (n m : ℕ) → n < m → n / m ≡ 0
quotient_none n m h = let e : n ≡ 0 * m + n = omega arith in ap (λ z. z / m) e ∙ div-mul-add 0 m n h
