-- Parts of numbers of two halves, complements, and numbers put together.
use Rattle.std.proofs.Common.{◌≡◌, ℕ, zero, suc, ◌+◌, ◌-◌, ◌*◌, ◌/◌, ◌%◌, ◌^◌, ◌<◌, ◌≤◌, refl, sym, ap, ◌∙◌, arith}
use Rattle.std.specs.Prelude.{bit_and}
use Rattle.std.proofs.Math.Nat.{mod-eq_of_lt}
use Rattle.std.proofs.Math.Pow.{pow_pos, pow_mono}
use Rattle.std.proofs.lemmas.Nat.{row_fits, pow-add, and_mask, shr-shr, field_of, mod_low, shr_high}
use Rattle.sim_gates.proofs.Operating.{cut_twice, masked}

-- a part of the low half
pub low_part : (h l low bits : ℕ) → l < 2 ^ 64 → low + bits ≤ 64 → (h * 2 ^ 64 + l) / 2 ^ low % 2 ^ bits ≡ l / 2 ^ low % 2 ^ bits
low_part h l low bits small room =
    let w : bits + low ≤ 64 = omega arith in
    let n : ℕ = h * 2 ^ 64 + l in
    let cut : n % 2 ^ (bits + low) ≡ l % 2 ^ (bits + low) = sym (cut_twice n (bits + low) w) ∙ ap (λ k. k % 2 ^ (bits + low)) (mod_low h 64 l small) in
    sym (field_of n bits low) ∙ ap (λ k. k / 2 ^ low) cut ∙ field_of l bits low

-- a part of the high half
pub high_part : (h l low bits : ℕ) → l < 2 ^ 64 → 64 ≤ low → (h * 2 ^ 64 + l) / 2 ^ low % 2 ^ bits ≡ h / 2 ^ (low - 64) % 2 ^ bits
high_part h l low bits small far =
    let e : 64 + (low - 64) ≡ low = omega arith in
    let s : (h * 2 ^ 64 + l) / 2 ^ low ≡ h / 2 ^ (low - 64) =
    ap (λ k. (h * 2 ^ 64 + l) / 2 ^ k) (sym e) ∙ sym (shr-shr (h * 2 ^ 64 + l) 64 (low - 64)) ∙ ap (λ k. k / 2 ^ (low - 64)) (shr_high h 64 l small) in
    ap (λ k. k % 2 ^ bits) s

-- the gate of a part
pub part_gate : (n low bits : ℕ) → bit_and (n / 2 ^ low) (2 ^ bits - 1) ≡ n / 2 ^ low % 2 ^ bits
part_gate n low bits = and_mask (n / 2 ^ low) bits

-- all 64 bits are the number itself
pub all_bits : (n low bits : ℕ) → n < 2 ^ 64 → low ≡ 0 → bits ≡ 64 → n ≡ n / 2 ^ low % 2 ^ bits
all_bits n low bits small z w =
    let e : n / 1 ≡ n = omega arith in
    sym (ap (λ k. n / 2 ^ k % 2 ^ bits) z ∙ ap (λ k. n / 1 % 2 ^ k) w ∙ ap (λ k. k % 2 ^ 64) e ∙ mod-eq_of_lt small)

-- a number of 64 bits has nothing in its high half
pub high_is_none : (h l : ℕ) → h * 2 ^ 64 + l < 2 ^ 64 → h ≡ 0
high_is_none zero l p = refl
high_is_none (suc h) l p = absurd (omega arith)

pub low_alone : (h l : ℕ) → h ≡ 0 → h * 2 ^ 64 + l ≡ l
low_alone h l e = ap (λ k. k * 2 ^ 64 + l) e ∙ (let z : 0 * 2 ^ 64 + l ≡ l = omega arith in z)

-- a number above another in 64 bits
pub join_gate : (a b n : ℕ) → a * 2 ^ b + n < 2 ^ 64 → ((a * 2 ^ b) % 2 ^ 64 + n) % 2 ^ 64 ≡ a * 2 ^ b + n
join_gate a b n h =
    let x : ℕ = a * 2 ^ b in
    let low : x < 2 ^ 64 = omega arith in
    let e : x % 2 ^ 64 ≡ x = mod-eq_of_lt low in
    ap (λ k. (k + n) % 2 ^ 64) e ∙ mod-eq_of_lt h

-- the same in more bits, as a shift and a sum
pub join_wide : (a b n w : ℕ) → a * 2 ^ b + n < 2 ^ w → ((a * 2 ^ b) % 2 ^ w + n) % 2 ^ w ≡ a * 2 ^ b + n
join_wide a b n w h =
    let x : ℕ = a * 2 ^ b in
    let low : x < 2 ^ w = omega arith in
    let e : x % 2 ^ w ≡ x = mod-eq_of_lt low in
    ap (λ k. (k + n) % 2 ^ w) e ∙ mod-eq_of_lt h

-- the complement of 64 bits or fewer
pub complement_gate : (n w : ℕ) → w ≤ 64 → n < 2 ^ w → bit_and ((2 ^ w - 1 + 2 ^ 64 - n) % 2 ^ 64) (2 ^ w - 1) ≡ 2 ^ w - 1 - n
complement_gate n w h low =
    let p : 2 ^ w ≤ 2 ^ 64 = pow_mono h in
    let e : 2 ^ w - 1 + 2 ^ 64 - n ≡ (2 ^ w - 1 - n) + 2 ^ 64 = omega arith in
    let small : 2 ^ w - 1 - n < 2 ^ w = omega arith in
    masked (2 ^ w - 1 + 2 ^ 64 - n) w h ∙ sym (cut_twice (2 ^ w - 1 + 2 ^ 64 - n) w h) ∙ ap (λ k. k % 2 ^ 64 % 2 ^ w) e ∙ ap (λ k. k % 2 ^ w) (cut_one (2 ^ w - 1 - n)) ∙ cut_twice (2 ^ w - 1 - n) w h ∙ mod-eq_of_lt small where
      cut_one : (x : ℕ) → (x + 2 ^ 64) % 2 ^ 64 ≡ x % 2 ^ 64
      cut_one x = omega arith

-- the complement of two halves is that of each
pub complement_halves : (h l w : ℕ) → 64 ≤ w → l < 2 ^ 64 → h < 2 ^ (w - 64) → (2 ^ (w - 64) - 1 - h) * 2 ^ 64 + (2 ^ 64 - 1 - l) ≡ 2 ^ w - 1 - (h * 2 ^ 64 + l)
complement_halves h l w far low high =
    let e : (w - 64) + 64 ≡ w = omega arith in
    let s : 2 ^ w ≡ 2 ^ (w - 64) * 2 ^ 64 = ap (λ k. 2 ^ k) (sym e) ∙ pow-add 2 (w - 64) 64 in
    let p : ℕ = 2 ^ (w - 64) in
    let q : 2 ^ w ≡ p * 18446744073709551616 = s in
    let t : h < p = high in
    omega arith

-- what is put together fits, and so does each part
pub parts_low : (a b n m : ℕ) → a * 2 ^ b + n < m → (a < m) × (n < m)
parts_low a b n m h =
    let p : 0 < 2 ^ b = pow_pos b in
    let l : a ≤ a * 2 ^ b = times_least a (2 ^ b) p in
    ((let z : a < m = omega arith in z), (let z : n < m = omega arith in z)) where
      times_least : (a p : ℕ) → 0 < p → a ≤ a * p
      times_least a zero h = absurd (omega arith)
      times_least a (suc p) h = grind arith
