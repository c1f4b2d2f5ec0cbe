-- Identifiers digit by digit.
use Rattle.std.proofs.lemmas.Bool.{lt-ltb, le-ltb}
use Rattle.std.proofs.Common.{◌≡◌, ◌≢◌, ℕ, zero, suc, ◌+◌, ◌-◌, ◌*◌, ◌/◌, ◌%◌, ◌<◌, ◌≤◌, [], ◌∷◌, ◌++◌, length, inl, inr, refl, sym, ap, subst, ◌∙◌, arith, nat_lt}
use Rattle.tapa_base.specs.Gaps.{Bytes}
use Rattle.vcd_text.specs.Along.{common, Stops}
use Rattle.vcd_text.specs.Dump.{digits_94, identifier}
use Rattle.vcd_text.proofs.Common.{common_other, stops_here, stops_next, stops_empty, less, cond_yes, cond_no}
use Rattle.vcd_text.proofs.Sequences.{Free}

small_digits : (m k : ℕ) → k < 94 → digits_94 (suc m) k ≡ (33 + k % 94) ∷ []
small_digits m k h = ap (λ (l : Bytes). (33 + k % 94) ∷ l) (cond_yes (nat_lt k 94) [] (digits_94 m (k / 94)) (lt-ltb k 94 h))

big_digits : (m k : ℕ) → 94 ≤ k → digits_94 (suc m) k ≡ (33 + k % 94) ∷ digits_94 m (k / 94)
big_digits m k h = ap (λ (l : Bytes). (33 + k % 94) ∷ l) (cond_no (nat_lt k 94) [] (digits_94 m (k / 94)) (le-ltb k 94 h))

-- more digits than there are change nothing
digits_same : (m n k : ℕ) → k ≤ m → k ≤ n → digits_94 (suc m) k ≡ digits_94 (suc n) k
digits_same zero n k p q = small_digits 0 k (omega arith) ∙ sym (small_digits n k (omega arith))
digits_same (suc m) zero k p q = small_digits (suc m) k (omega arith) ∙ sym (small_digits 0 k (omega arith))
digits_same (suc m) (suc n) k p q = elim (less k 94) [
  | inl t ↦ small_digits (suc m) k t.1 ∙ sym (small_digits (suc n) k t.1)
  | inr f ↦ big_digits (suc m) k f.1 ∙ ap (λ (l : Bytes). (33 + k % 94) ∷ l) (digits_same m n (k / 94) (omega (arith, f.1)) (omega (arith, f.1))) ∙ sym (big_digits (suc n) k f.1)
]

pub identifier_small : (k : ℕ) → k < 94 → identifier k ≡ (33 + k % 94) ∷ []
unfolding identifier
identifier_small k h = small_digits k k h

pub identifier_big : (k : ℕ) → 94 ≤ k → identifier k ≡ (33 + k % 94) ∷ identifier (k / 94)
unfolding identifier
identifier_big zero h = absurd (omega arith)
identifier_big (suc k) h = big_digits (suc k) (suc k) h ∙ ap (λ (l : Bytes). (33 + suc k % 94) ∷ l) (digits_same k (suc k / 94) (suc k / 94) (omega arith) (omega arith))

-- the first digit, and what comes behind it
first_digit : (k : ℕ) → (y : Bytes) × (identifier k ≡ (33 + k % 94) ∷ y)
first_digit k = elim (less k 94) [ inl t ↦ ([], identifier_small k t.1) | inr f ↦ (identifier (k / 94), identifier_big k f.1) ]

-- ---- where identifiers stop

pub identifier_none : (k : ℕ) → Stops (λ w. w ≡ identifier k) [] 0
identifier_none k = stops_empty (λ w. w ≡ identifier k) (identifier k) refl (λ y e. subst (λ (l : Bytes). 0 < length l) (sym (e ∙ (first_digit k).1)) (omega arith))

pub identifier_stop : (k byte : ℕ) (z : Bytes) → byte ≢ 33 + k % 94 → Stops (λ w. w ≡ identifier k) (byte ∷ z) 0
identifier_stop k byte z other = stops_here (λ w. w ≡ identifier k) (byte ∷ z) (identifier k) refl (λ y e. (
  ap (λ (l : Bytes). common l (byte ∷ z)) (e ∙ (first_digit k).1) ∙ common_other (33 + k % 94) byte (first_digit k).0 z (λ same. other (sym same)),
  subst (λ (l : Bytes). 0 < length l) (sym (e ∙ (first_digit k).1)) (omega arith),
))

pub identifier_next : (k byte : ℕ) (z : Bytes) (n : ℕ) → 94 ≤ k → byte ≡ 33 + k % 94 → Stops (λ w. w ≡ identifier (k / 94)) z n → Stops (λ w. w ≡ identifier k) (byte ∷ z) (suc n)
identifier_next k byte z n h is s =
    let step : identifier k ≡ byte ∷ identifier (k / 94) = identifier_big k h ∙ ap (λ x. x ∷ identifier (k / 94)) (sym is) in
    stops_next (λ w. w ≡ identifier k) (λ w. w ≡ identifier (k / 94)) byte z n (λ w e. ap (λ (l : Bytes). byte ∷ l) e ∙ sym step) (λ w e. inl (identifier (k / 94), e ∙ step, refl)) s

pub found_last : (k byte : ℕ) (rest text : Bytes) → k < 94 → byte ≡ 33 + k % 94 → text ≡ byte ∷ rest → text ≡ identifier k ++ rest
found_last k byte rest text h is e = e ∙ ap (λ x. x ∷ rest) is ∙ ap (λ (l : Bytes). l ++ rest) (sym (identifier_small k h))

pub found_more : (k byte : ℕ) (rest behind text : Bytes) → 94 ≤ k → byte ≡ 33 + k % 94 → rest ≡ identifier (k / 94) ++ behind → text ≡ byte ∷ rest → text ≡ identifier k ++ behind
found_more k byte rest behind text h is e f = f ∙ ap (λ x. x ∷ rest) is ∙ ap (λ (l : Bytes). (33 + k % 94) ∷ l) e ∙ ap (λ (l : Bytes). l ++ behind) (sym (identifier_big k h))

-- ---- what identifiers are

pub identifier_free : (e k : ℕ) → e < 33 → Free e (identifier k)
unfolding identifier
identifier_free e k h = digits_free (suc k) k
  where
    digits_free : (m k : ℕ) → Free e (digits_94 m k)
    digits_free zero k = tt
    digits_free (suc m) k = elim (less k 94) [
      | inl t ↦ subst (λ (l : Bytes). Free e l) (sym (small_digits m k t.1)) (λ same. absurd (omega (arith, same)), tt)
      | inr f ↦ subst (λ (l : Bytes). Free e l) (sym (big_digits m k f.1)) (λ same. absurd (omega (arith, same)), digits_free m (k / 94))
    ]

-- the number that digits stand for
number : Bytes → ℕ
number [] = 0
number (b ∷ w) = b - 33 + 94 * number w

number_of : (m k : ℕ) → k ≤ m → number (digits_94 (suc m) k) ≡ k
unfolding number
number_of zero k h = ap number (small_digits 0 k (omega arith)) ∙ omega arith
number_of (suc m) k h = elim (less k 94) [
  | inl t ↦ ap number (small_digits (suc m) k t.1) ∙ omega (arith, t.1)
  | inr f ↦ let ih = number_of m (k / 94) (omega (arith, f.1)) in ap number (big_digits (suc m) k f.1) ∙ ap (λ n. 33 + k % 94 - 33 + 94 * n) ih ∙ omega arith
]

pub identifier_one : (j k : ℕ) → identifier j ≡ identifier k → j ≡ k
unfolding identifier
identifier_one j k e = sym (number_of j j (omega arith)) ∙ ap number e ∙ number_of k k (omega arith)
