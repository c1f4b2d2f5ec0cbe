-- Conversions and shifts of words.
use Rattle.std.proofs.Common.{◌≡◌, ℕ, ◌+◌, ◌-◌, ◌*◌, ◌/◌, ◌%◌, ◌^◌, ◌<◌, ◌≤◌, Bool, true, false, cond, refl, sym, ap, subst, ◌∙◌, arith}
use Rattle.std.specs.Prelude.{nat_lt}
use Rattle.std.proofs.Math.Pow.{pow_pos, pow_mono, pow-add}
use Rattle.std.proofs.Math.Nat.{div-le_self, mul_assoc}
use Rattle.std.proofs.Math.Arith.{digits_mod}
use Rattle.std.proofs.lemmas.Bool.{ltb-false}
use Rattle.tapa_base.specs.declared.kind.Kind.{Kind}
use Rattle.tapa_base.specs.declared.kind.Kind.TheVariants as kind
use Rattle.tapa_base.specs.Kinds.{bits_of, values_of, number, residue, converted}
use Rattle.tapa_base.specs.Operators.{floor_div, sign_bits}
use Rattle.hw_task_laws.specs.words.Words.{is_negative, CutsWords, ExtendsWords, ShiftsWordsLeft, ShiftsWordsRight}
use Rattle.hw_task_laws.proofs.words.Numbers.{number_plain, number_negative, turned_remainder, residue_low, residue_back, quotient_none}
use Rattle.tapa_base.proofs.Tests.{some_values}

-- to a kind other than Bool by the number
converted_is : (s t : Kind) (a : ℕ) → (t ≡ kind.Bool → ⊥) → converted s t a ≡ residue (values_of t) (number s a)
converted_is s kind.Bool a n = absurd (n refl)
converted_is s _ a n = refl

-- a power is a multiple of a lower one
power_of : (v w : ℕ) → v ≤ w → (q : ℕ) × (2 ^ w ≡ q * 2 ^ v)
power_of v w h = let e : w ≡ (w - v) + v = omega arith in (2 ^ (w - v), ap (λ z. 2 ^ z) e ∙ pow-add 2 (w - v) v)

pub cuts : CutsWords
cuts s t a h n l = converted_is s t a n ∙ here (is_negative s a) refl where
  here : (b : Bool) → is_negative s a ≡ b → residue (values_of t) (number s a) ≡ a % values_of t
  here false e = ap (residue (values_of t)) (number_plain s a e)
  here true e =
      let p = power_of (bits_of t) (bits_of s) l in
      let low : a < p.0 * values_of t = subst (λ z. a < z) p.1 h in
      ap (residue (values_of t)) (number_negative s a h e) ∙ ap (λ z. values_of t - 1 - (z - a - 1) % values_of t) p.1
      ∙ turned_remainder p.0 (values_of t) a (some_values t) low

pub extends : ExtendsWords
extends s t a h n l = converted_is s t a n ∙ here (is_negative s a) refl where
  wide : values_of s ≤ values_of t
  wide = pow_mono l

  here : (b : Bool) → is_negative s a ≡ b → residue (values_of t) (number s a) ≡ cond b (values_of t - values_of s + a) a
  here false e = let w = wide in ap (residue (values_of t)) (number_plain s a e) ∙ residue_low (values_of t) a (omega (arith, w, h))
  here true e =
      let w = wide in
      let back : values_of s - a - 1 < values_of t = omega (arith, w, h) in
      let same : values_of t - 1 - (values_of s - a - 1) ≡ values_of t - values_of s + a = omega (arith, w, h) in
      ap (residue (values_of t)) (number_negative s a h e) ∙ residue_back (values_of t) (values_of s - a - 1) back ∙ same

pub far_left : (a b w : ℕ) → w ≤ b → (a * 2 ^ b) % 2 ^ w ≡ 0
far_left a b w h =
    let e : b ≡ (b - w) + w = omega arith in
    let p : a * 2 ^ b ≡ (a * 2 ^ (b - w)) * 2 ^ w + 0 = ap (λ z. a * 2 ^ z) e ∙ ap (λ z. a * z) (pow-add 2 (b - w) w) ∙ regroup a (2 ^ (b - w)) (2 ^ w) in
    ap (λ z. z % 2 ^ w) p ∙ digits_mod (a * 2 ^ (b - w)) (pow_pos w) where
      regroup : (x y z : ℕ) → x * (y * z) ≡ (x * y) * z + 0
      regroup x y z = sym (mul_assoc x y z) ∙ (let q : (x * y) * z ≡ (x * y) * z + 0 = omega arith in q)

pub left : ShiftsWordsLeft
left k a b = here (nat_lt b (bits_of k)) refl where
  here : (c : Bool) → nat_lt b (bits_of k) ≡ c → cond c ((a * 2 ^ b) % values_of k) 0 ≡ (a * 2 ^ b) % values_of k
  here true e = refl
  here false e = sym (far_left a b (bits_of k) (ltb-false b (bits_of k) e))

pub right : ShiftsWordsRight
right k a b h = here (nat_lt b (bits_of k)) refl (is_negative k a) refl where
  here : (c : Bool) → nat_lt b (bits_of k) ≡ c → (d : Bool) → is_negative k a ≡ d
      → cond c (residue (values_of k) (floor_div (number k a) (2 ^ b))) (sign_bits k (number k a)) ≡ cond d (values_of k - 1 - (values_of k - 1 - a) / 2 ^ b) (a / 2 ^ b)
  here true e false f =
      let low : a / 2 ^ b < values_of k = (let l : a / 2 ^ b ≤ a = div-le_self a (2 ^ b) in omega (arith, l, h)) in
      ap (λ z. residue (values_of k) (floor_div z (2 ^ b))) (number_plain k a f) ∙ residue_low (values_of k) (a / 2 ^ b) low
  here true e true f =
      let l : (values_of k - a - 1) / 2 ^ b ≤ values_of k - a - 1 = div-le_self (values_of k - a - 1) (2 ^ b) in
      let low : (values_of k - a - 1) / 2 ^ b < values_of k = omega (arith, l, h) in
      let same : values_of k - a - 1 ≡ values_of k - 1 - a = omega arith in
      ap (λ z. residue (values_of k) (floor_div z (2 ^ b))) (number_negative k a h f) ∙ residue_back (values_of k) ((values_of k - a - 1) / 2 ^ b) low ∙ ap (λ z. values_of k - 1 - z / 2 ^ b) same
  here false e false f =
      let wide : values_of k ≤ 2 ^ b = pow_mono (ltb-false b (bits_of k) e) in
      ap (sign_bits k) (number_plain k a f) ∙ sym (quotient_none a (2 ^ b) (omega (arith, wide, h)))
  here false e true f =
      let wide : values_of k ≤ 2 ^ b = pow_mono (ltb-false b (bits_of k) e) in
      let none : (values_of k - 1 - a) / 2 ^ b ≡ 0 = quotient_none (values_of k - 1 - a) (2 ^ b) (omega (arith, wide, h)) in
      ap (sign_bits k) (number_negative k a h f) ∙ (let q : values_of k - 1 ≡ values_of k - 1 - 0 = omega arith in q) ∙ ap (λ z. values_of k - 1 - z) (sym none)
