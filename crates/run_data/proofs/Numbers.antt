-- Whole numbers of so many bits.
use Rattle.std.proofs.Common.{◌≡◌, ℕ, zero, suc, ◌+◌, ◌-◌, ◌*◌, ◌/◌, ◌%◌, ◌^◌, ◌<◌, ◌≤◌, ℤ, pos, negsuc, ◌≤ℤ◌, ◌<ℤ◌, Some, None, refl, sym, ap, ◌∙◌, arith}
use Rattle.std.proofs.Math.Nat.{mod-eq_of_lt, pow-suc}
use Rattle.std.proofs.lemmas.Bool.Decides.{nat_tests}
use Rattle.std.proofs.lemmas.Int.{ints}
use Rattle.std.proofs.lemmas.Nat.{pow_pos, mod_below}
use Rattle.std.specs.Int.RustNames.{unsigned_abs}
use Rattle.std.proofs.lemmas.Option.{cond_some}
use Rattle.run_data.specs.Data.{is_within, bits_of_whole}

double : (bits : ℕ) → 0 < bits → 2 ^ bits ≡ 2 * 2 ^ (bits - 1)
double zero h = absurd (omega arith)
double (suc bits) h = let e : suc bits - 1 ≡ bits = omega arith in rw e (omega (arith, pow-suc 2 bits))

natural_within : (bits n : ℕ) → n < 2 ^ bits → bits_of_whole bits (pos n) ≡ Some n
natural_within bits n h = let e : n % 2 ^ bits ≡ n = mod-eq_of_lt h in rw e (grind (arith, nat_tests))

negative_within : (bits n half : ℕ) → half ≡ 2 ^ (bits - 1) → 2 ^ bits ≡ 2 * half → 2 ≤ bits → n + 1 ≤ 2 ^ bits / 2 → bits_of_whole bits (negsuc n) ≡ Some (2 ^ bits - (n + 1))
negative_within bits n half is both wide h =
    let less : n < half = omega arith in
    let e : n % 2 ^ bits ≡ n = mod-eq_of_lt (omega arith) in
    rw (e, ← is) (grind (arith, nat_tests))

negative_outside : (bits n half : ℕ) → half ≡ 2 ^ (bits - 1) → 2 ^ bits ≡ 2 * half → 2 ^ bits / 2 < n + 1 → bits_of_whole bits (negsuc n) ≡ None
negative_outside bits n half is both h = rw (← is) (grind (arith, nat_tests))

negative_narrow : (bits n : ℕ) → bits < 2 → bits_of_whole bits (negsuc n) ≡ None
negative_narrow bits n h = grind (arith, nat_tests)

-- a whole number that is not negative
pub natural : (bits : ℕ) (z : ℤ) (size : ℕ) → pos 0 ≤ℤ z → size ≡ unsigned_abs z → size < 2 ^ bits → Some size ≡ bits_of_whole bits z
natural bits (pos n) size h is less = rw is (sym (natural_within bits n (omega arith)))
natural bits (negsuc n) size h is less = absurd (omega (arith, ints))

-- a negative one, by its size
pub negative : (bits : ℕ) (z : ℤ) (size : ℕ) → z <ℤ pos 0 → size ≡ unsigned_abs z → 2 ≤ bits → size ≤ 2 ^ bits / 2 → Some (2 ^ bits - size) ≡ bits_of_whole bits z
negative bits (pos n) size h is wide less = absurd (omega (arith, ints))
negative bits (negsuc n) size h is wide less = sym (negative_within bits n (2 ^ (bits - 1)) refl (double bits (omega arith)) wide (omega arith) ∙ ap (λ k. Some (2 ^ bits - k)) (omega arith))

-- the bits of a number are below 2 to their count
pub whole_below : (bits : ℕ) (z : ℤ) (n : ℕ) → bits_of_whole bits z ≡ Some n → n < 2 ^ bits
whole_below bits (pos m) n h =
    let is = (cond_some (is_within bits (pos m)) _ n h).1 in
    omega (arith, is, mod_below m (2 ^ bits) (pow_pos bits))
whole_below bits (negsuc m) n h =
    let is = (cond_some (is_within bits (negsuc m)) _ n h).1 in
    omega (arith, is, pow_pos bits)

pub negative_past : (bits : ℕ) (z : ℤ) (size : ℕ) → z <ℤ pos 0 → size ≡ unsigned_abs z → 2 ^ bits / 2 < size → None ≡ bits_of_whole bits z
negative_past bits (pos n) size h is past = absurd (omega (arith, ints))
negative_past zero (negsuc n) size h is past = sym (negative_narrow zero n (omega arith))
negative_past (suc bits) (negsuc n) size h is past = sym (negative_outside (suc bits) n (2 ^ (suc bits - 1)) refl (double (suc bits) (omega arith)) (omega arith))
