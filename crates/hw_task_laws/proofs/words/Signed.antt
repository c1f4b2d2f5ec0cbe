-- Comparisons and divisions of words in two's complement.
use Rattle.std.proofs.Common.{◌≡◌, ℕ, zero, suc, ◌+◌, ◌-◌, ◌*◌, ◌/◌, ◌%◌, ◌^◌, ◌<◌, ◌≤◌, Bool, true, false, cond, ◌&&◌, refl, sym, ap, ◌∙◌, arith}
use Rattle.std.specs.Prelude.{pos, negsuc, nat_le, nat_lt, not, bit_xor}
use Rattle.std.specs.Int.RustNames.{int_lt, int_div, int_rem}
use Rattle.std.specs.Int.Bits.{xor_block, xor_zero_r}
use Rattle.std.proofs.Math.Nat.{mod-eq_of_lt, mod-le, div-le_self}
use Rattle.std.proofs.Math.IntN.{neg_ℤ}
use Rattle.std.proofs.Math.Arith.{digits_mod}
use Rattle.std.proofs.Math.Pow.{pow_pos}
use Rattle.std.proofs.lemmas.Bool.{lt-ltb, ltb-true}
use Rattle.tapa_base.specs.declared.kind.Kind.{Kind}
use Rattle.tapa_base.specs.Kinds.{bits_of, is_signed, values_of, number, residue}
use Rattle.hw_task_laws.specs.words.Words.{half_of, is_negative}
use Rattle.hw_task_laws.specs.words.Signed.{OrdersWords, OrdersTurnedWords, NotAboveIsNotBelow, opposite_if, differ, DividesWords, LeavesWords}
use Rattle.hw_task_laws.proofs.words.Numbers.{number_plain, number_negative, two_halves, negative_high, plain_low, residue_low, residue_back}

unsigned_plain : (k : Kind) (a : ℕ) → is_signed k ≡ false → is_negative k a ≡ false
unsigned_plain k a e = ap (λ b. b && nat_le (half_of k) a) e

pub plain_order : OrdersWords
plain_order k a b e = ap (λ x. int_lt x (number k b)) (number_plain k a (unsigned_plain k a e)) ∙ ap (int_lt (pos a)) (number_plain k b (unsigned_plain k b e))

-- the highest bit turned
turn_low : (w a : ℕ) → a < 2 ^ w → bit_xor a (2 ^ w) ≡ 2 ^ w + a
turn_low w a h =
    let p : a ≡ 0 * 2 ^ w + a = omega arith in
    let q : 2 ^ w ≡ 1 * 2 ^ w + 0 = omega arith in
    ap (λ z. bit_xor z (2 ^ w)) p ∙ ap (bit_xor (0 * 2 ^ w + a)) q ∙ xor_block w 0 1 a 0 h (pow_pos w) ∙ ap (λ z. 1 * 2 ^ w + z) (xor_zero_r a) ∙ (let r : 1 * 2 ^ w + a ≡ 2 ^ w + a = omega arith in r)

turn_high : (w a : ℕ) → 2 ^ w ≤ a → a < 2 ^ w + 2 ^ w → bit_xor a (2 ^ w) ≡ a - 2 ^ w
turn_high w a l h =
    let p : a ≡ 1 * 2 ^ w + (a - 2 ^ w) = omega arith in
    let q : 2 ^ w ≡ 1 * 2 ^ w + 0 = omega arith in
    ap (λ z. bit_xor z (2 ^ w)) p ∙ ap (bit_xor (1 * 2 ^ w + (a - 2 ^ w))) q ∙ xor_block w 1 1 (a - 2 ^ w) 0 (omega arith) (pow_pos w) ∙ ap (λ z. 0 * 2 ^ w + z) (xor_zero_r (a - 2 ^ w)) ∙ (let r : 0 * 2 ^ w + (a - 2 ^ w) ≡ a - 2 ^ w = omega arith in r)

not_lt : (x y : ℕ) → y ≤ x → nat_lt x y ≡ false
not_lt x y h = here (nat_lt x y) refl where
  here : (c : Bool) → nat_lt x y ≡ c → c ≡ false
  here true e = let l : x < y = ltb-true x y e in absurd (omega (arith, l, h))
  here false e = refl

-- two tests that hold together
mirrored : (x y u v : ℕ) → (x < y → u < v) → (u < v → x < y) → nat_lt x y ≡ nat_lt u v
mirrored x y u v f g = here (nat_lt x y) refl where
  here : (c : Bool) → nat_lt x y ≡ c → c ≡ nat_lt u v
  here true e = sym (lt-ltb u v (f (ltb-true x y e)))
  here false e = sym (there (nat_lt u v) refl) where
    there : (d : Bool) → nat_lt u v ≡ d → d ≡ false
    there true k = sym (lt-ltb x y (g (ltb-true u v k))) ∙ e
    there false k = refl

moved : (a b h : ℕ) → nat_lt a b ≡ nat_lt (h + a) (h + b)
moved a b h = mirrored a b (h + a) (h + b) (λ g. omega (arith, g)) (λ g. omega (arith, g))

pub turned_order : OrdersTurnedWords
turned_order k a b s h l = here (is_negative k a) refl (is_negative k b) refl where
  turned : (c : ℕ) → c < values_of k → (d : Bool) → is_negative k c ≡ d → bit_xor c (half_of k) ≡ cond d (c - half_of k) (half_of k + c)
  turned c m false e = turn_low (bits_of k - 1) c (plain_low k c s e)
  turned c m true e = let p = negative_high k c e in let v = two_halves k s in turn_high (bits_of k - 1) c p.0 (omega (arith, v, m))

  here : (c : Bool) → is_negative k a ≡ c → (d : Bool) → is_negative k b ≡ d → int_lt (number k a) (number k b) ≡ nat_lt (bit_xor a (half_of k)) (bit_xor b (half_of k))
  here false e false f =
      let x = turned a h false e in
      let y = turned b l false f in
      ap (λ z. int_lt z (number k b)) (number_plain k a e) ∙ ap (int_lt (pos a)) (number_plain k b f) ∙ moved a b (half_of k) ∙ ap (λ z. nat_lt z (half_of k + b)) (sym x) ∙ ap (nat_lt (bit_xor a (half_of k))) (sym y)
  here false e true f =
      let x = turned a h false e in
      let y = turned b l true f in
      let p = negative_high k b f in
      let v = two_halves k s in
      ap (λ z. int_lt z (number k b)) (number_plain k a e) ∙ ap (int_lt (pos a)) (number_negative k b l f)
      ∙ sym (ap (λ z. nat_lt z (bit_xor b (half_of k))) x ∙ ap (nat_lt (half_of k + a)) y ∙ not_lt (half_of k + a) (b - half_of k) (omega (arith, v, l)))
  here true e false f =
      let x = turned a h true e in
      let y = turned b l false f in
      let p = negative_high k a e in
      let v = two_halves k s in
      ap (λ z. int_lt z (number k b)) (number_negative k a h e) ∙ ap (int_lt (negsuc (values_of k - a - 1))) (number_plain k b f)
      ∙ sym (ap (λ z. nat_lt z (bit_xor b (half_of k))) x ∙ ap (nat_lt (a - half_of k)) y ∙ lt-ltb (a - half_of k) (half_of k + b) (omega (arith, v, h)))
  here true e true f =
      let x = turned a h true e in
      let y = turned b l true f in
      let p = negative_high k a e in
      let q = negative_high k b f in
      ap (λ z. int_lt z (number k b)) (number_negative k a h e) ∙ ap (int_lt (negsuc (values_of k - a - 1))) (number_negative k b l f)
      ∙ mirrored (values_of k - b - 1) (values_of k - a - 1) (a - half_of k) (b - half_of k) (λ g. let i = p.0 in let j = q.0 in omega (arith, g, h, l, i, j)) (λ g. let i = p.0 in let j = q.0 in omega (arith, g, h, l, i, j))
      ∙ ap (λ z. nat_lt z (b - half_of k)) (sym x) ∙ ap (nat_lt (bit_xor a (half_of k))) (sym y)

not_le : (a b : ℕ) → nat_le a b ≡ not (nat_lt b a)
not_le a b = grind arith

pub opposite : NotAboveIsNotBelow
opposite (pos a) (pos b) = not_le a b
opposite (pos a) (negsuc b) = refl
opposite (negsuc a) (pos b) = refl
opposite (negsuc a) (negsuc b) = not_le b a

-- ---- division

opposite_is : (v q : ℕ) → q < v → residue v (neg_ℤ (pos q)) ≡ (v - q) % v
opposite_is v zero h =
    let none : (1 * v + 0) % v ≡ 0 = digits_mod 1 h in
    let same : 1 * v + 0 ≡ v - 0 = omega arith in
    mod-eq_of_lt h ∙ sym none ∙ ap (λ z. z % v) same
opposite_is v (suc n) h =
    let low : n < v = omega (arith, h) in
    let less : v - suc n < v = omega (arith, h) in
    let same : v - 1 - n ≡ v - suc n = omega arith in
    residue_back v n low ∙ same ∙ sym (mod-eq_of_lt less)

-- the absolute value of a negative word
module _ (k : Kind) (a : ℕ) (h : a < values_of k) (e : is_negative k a ≡ true) where
  pub abs_is : suc (values_of k - a - 1) ≡ values_of k - a
  abs_is = omega arith

  pub abs_low : values_of k - a < values_of k
  abs_low = let p = negative_high k a e in let l = p.0 in let some : 0 < half_of k = pow_pos (bits_of k - 1) in omega (arith, h, l, some)

pub divides : DividesWords
divides k a b h l some = here (is_negative k a) refl (is_negative k b) refl where
  here : (c : Bool) → is_negative k a ≡ c → (d : Bool) → is_negative k b ≡ d
      → residue (values_of k) (int_div (number k a) (number k b)) ≡ opposite_if (differ c d) k (cond c (values_of k - a) a / cond d (values_of k - b) b)
  here false e false f =
      let low : a / b ≤ a = div-le_self a b in
      ap (λ z. residue (values_of k) (int_div z (number k b))) (number_plain k a e) ∙ ap (λ z. residue (values_of k) (int_div (pos a) z)) (number_plain k b f) ∙ residue_low (values_of k) (a / b) (omega (arith, low, h))
  here false e true f =
      let low : a / (values_of k - b) ≤ a = div-le_self a (values_of k - b) in
      ap (λ z. residue (values_of k) (int_div z (number k b))) (number_plain k a e) ∙ ap (λ z. residue (values_of k) (int_div (pos a) z)) (number_negative k b l f)
      ∙ ap (λ z. residue (values_of k) (neg_ℤ (pos (a / z)))) (abs_is k b l f) ∙ opposite_is (values_of k) (a / (values_of k - b)) (omega (arith, low, h))
  here true e false f =
      let low : (values_of k - a) / b ≤ values_of k - a = div-le_self (values_of k - a) b in
      let less = abs_low k a h e in
      ap (λ z. residue (values_of k) (int_div z (number k b))) (number_negative k a h e) ∙ ap (λ z. residue (values_of k) (int_div (negsuc (values_of k - a - 1)) z)) (number_plain k b f)
      ∙ ap (λ z. residue (values_of k) (neg_ℤ (pos (z / b)))) (abs_is k a h e) ∙ opposite_is (values_of k) ((values_of k - a) / b) (omega (arith, low, less))
  here true e true f =
      let low : (values_of k - a) / (values_of k - b) ≤ values_of k - a = div-le_self (values_of k - a) (values_of k - b) in
      let less = abs_low k a h e in
      ap (λ z. residue (values_of k) (int_div z (number k b))) (number_negative k a h e) ∙ ap (λ z. residue (values_of k) (int_div (negsuc (values_of k - a - 1)) z)) (number_negative k b l f)
      ∙ ap (λ z. residue (values_of k) (pos (z / suc (values_of k - b - 1)))) (abs_is k a h e) ∙ ap (λ z. residue (values_of k) (pos ((values_of k - a) / z))) (abs_is k b l f)
      ∙ residue_low (values_of k) ((values_of k - a) / (values_of k - b)) (omega (arith, low, less))

pub leaves : LeavesWords
leaves k a b h l some = here (is_negative k a) refl (is_negative k b) refl where
  here : (c : Bool) → is_negative k a ≡ c → (d : Bool) → is_negative k b ≡ d
      → residue (values_of k) (int_rem (number k a) (number k b)) ≡ opposite_if c k (cond c (values_of k - a) a % cond d (values_of k - b) b)
  here false e false f =
      let low : a % b ≤ a = mod-le a b in
      ap (λ z. residue (values_of k) (int_rem z (number k b))) (number_plain k a e) ∙ ap (λ z. residue (values_of k) (int_rem (pos a) z)) (number_plain k b f) ∙ residue_low (values_of k) (a % b) (omega (arith, low, h))
  here false e true f =
      let low : a % (values_of k - b) ≤ a = mod-le a (values_of k - b) in
      ap (λ z. residue (values_of k) (int_rem z (number k b))) (number_plain k a e) ∙ ap (λ z. residue (values_of k) (int_rem (pos a) z)) (number_negative k b l f)
      ∙ ap (λ z. residue (values_of k) (pos (a % z))) (abs_is k b l f) ∙ residue_low (values_of k) (a % (values_of k - b)) (omega (arith, low, h))
  here true e false f =
      let low : (values_of k - a) % b ≤ values_of k - a = mod-le (values_of k - a) b in
      let less = abs_low k a h e in
      ap (λ z. residue (values_of k) (int_rem z (number k b))) (number_negative k a h e) ∙ ap (λ z. residue (values_of k) (int_rem (negsuc (values_of k - a - 1)) z)) (number_plain k b f)
      ∙ ap (λ z. residue (values_of k) (neg_ℤ (pos (z % b)))) (abs_is k a h e) ∙ opposite_is (values_of k) ((values_of k - a) % b) (omega (arith, low, less))
  here true e true f =
      let low : (values_of k - a) % (values_of k - b) ≤ values_of k - a = mod-le (values_of k - a) (values_of k - b) in
      let less = abs_low k a h e in
      ap (λ z. residue (values_of k) (int_rem z (number k b))) (number_negative k a h e) ∙ ap (λ z. residue (values_of k) (int_rem (negsuc (values_of k - a - 1)) z)) (number_negative k b l f)
      ∙ ap (λ z. residue (values_of k) (neg_ℤ (pos (z % suc (values_of k - b - 1))))) (abs_is k a h e) ∙ ap (λ z. residue (values_of k) (neg_ℤ (pos ((values_of k - a) % z)))) (abs_is k b l f)
      ∙ opposite_is (values_of k) ((values_of k - a) % (values_of k - b)) (omega (arith, low, less))
