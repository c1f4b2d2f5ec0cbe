-- Numbers that fit 128 bits, and those that do not.
use Rattle.std.proofs.lemmas.Bool.Decides.{nat_tests}
use Rattle.std.proofs.lemmas.Bool.{cases_lt}
use Rattle.std.proofs.Math.Pow.{pow_mono}
use Rattle.std.proofs.Common.{◌≡◌, ℕ, ◌+◌, ◌*◌, ◌^◌, ◌<◌, ◌≤◌, Bool, true, false, cond, Option, Some, None, inl, inr, refl, sym, ap, ◌∙◌, arith}
use Rattle.std.specs.Prelude.{nat_lt}
use Rattle.std.specs.Option.{SomeIff}
use Rattle.vlog_values.specs.Numbers.{fitting}
use Rattle.vlog_values.proofs.Cuts.{least}

below : (n : ℕ) → n < 2 ^ 128 → nat_lt n (2 ^ 128) ≡ true
below n h = grind (arith, nat_tests)

above : (n : ℕ) → 2 ^ 128 ≤ n → nat_lt n (2 ^ 128) ≡ false
above n h = grind (arith, nat_tests)

pub fits : (n : ℕ) → n < 2 ^ 128 → Some n ≡ fitting n
fits n h = ap (λ b. cond b (Some n) None) (sym (below n h))

pub too_large : (n : ℕ) → 2 ^ 128 ≤ n → None ≡ fitting n
too_large n h = ap (λ b. cond b (Some n) None) (sym (above n h))

small_by : (n : ℕ) (b : Bool) → nat_lt n (2 ^ 128) ≡ b → None ≡ cond b (Some n) None → 2 ^ 128 ≤ n
small_by n true e h = cc
small_by n false e h = grind (arith, nat_tests)

pub is_large : (n : ℕ) → None ≡ fitting n → 2 ^ 128 ≤ n
is_large n h = small_by n (nat_lt n (2 ^ 128)) refl h

same_by : (n r : ℕ) (b : Bool) → Some r ≡ cond b (Some n) None → r ≡ n
same_by n r true h = cc
same_by n r false h = cc

pub is_fit : (n r : ℕ) → Some r ≡ fitting n → r ≡ n
is_fit n r h = same_by n r (nat_lt n (2 ^ 128)) h

-- what is larger doesn't fit either
pub grown : (m k : ℕ) → None ≡ fitting m → m ≤ k → None ≡ fitting k
grown m k h l = let a : 2 ^ 128 ≤ m = is_large m h in too_large k (omega arith)

pub if_fits : (o : Option ℕ) (n : ℕ) → SomeIff o (n < 2 ^ 128) n → o ≡ fitting n
if_fits None n h = elim (cases_lt n (2 ^ 128)) [ inl low ↦ absurd (h low) | inr high ↦ too_large n high ]
if_fits (Some r) n h = ap (λ k. Some k) h.1 ∙ fits n h.0

-- a number that isn't 0 has no room below 128 bits more
pub no_room : (n b low : ℕ) → (n ≡ 0 → ⊥) → 128 ≤ b → None ≡ fitting (n * 2 ^ b + low)
no_room n b low some h =
    let m : 2 ^ 128 ≤ 2 ^ b = pow_mono h in
    let p : 0 < n = omega arith in
    let l : 2 ^ b ≤ n * 2 ^ b = least n (2 ^ b) p in
    too_large (n * 2 ^ b + low) (omega arith)

pub no_product : (n p low : ℕ) → (n * p < 2 ^ 128 → ⊥) → None ≡ fitting (n * p + low)
no_product n p low h = elim (cases_lt (n * p) (2 ^ 128)) [ inl l ↦ absurd (h l) | inr high ↦ too_large (n * p + low) (omega arith) ]

pub with_low : (o : Option ℕ) (n p low high : ℕ) → high ≡ n * p → SomeIff o (high + low < 2 ^ 128) (high + low) → o ≡ fitting (n * p + low)
with_low o n p low high e h = if_fits o (high + low) h ∙ ap (λ k. fitting (k + low)) e

pub none_below : (n b low : ℕ) → n ≡ 0 → low < 2 ^ 128 → Some low ≡ fitting (n * 2 ^ b + low)
none_below n b low e h = let s : 0 * 2 ^ b + low ≡ n * 2 ^ b + low = ap (λ k. k * 2 ^ b + low) (sym e) in let z : low ≡ 0 * 2 ^ b + low = grind arith in fits low h ∙ ap (λ k. fitting k) (z ∙ s)

pub refit : (n r : ℕ) → Some r ≡ fitting n → Some r ≡ fitting r
refit n r h = h ∙ ap (λ k. fitting k) (sym (is_fit n r h))
