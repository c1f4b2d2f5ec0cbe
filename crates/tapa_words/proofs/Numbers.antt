-- Words of decimal digits.
use Rattle.std.proofs.Common.{◌≡◌, ◌≤◌, ◌<◌, ◌+◌, ◌-◌, ◌^◌, ℕ, zero, suc, List, [], ◌∷◌, length, true, None, refl, sym, subst, arith}
use Rattle.std.proofs.Math.Nat.{pow-suc}
use Rattle.std.specs.List.{list_all}
use Rattle.std.specs.Str.Parse.{AllDigits, IsNumeral, digits_value, without_leading_plus}
use Rattle.std.specs.Char.{digit_value}
use Rattle.std.proofs.lemmas.Int.Digits.{digits_value-lt}
use Rattle.tapa_words.specs.Words.{is_digit, number_of}

digit_below : (b : ℕ) → is_digit b ≡ true → digit_value b < 10
digit_below b h = grind arith

pub all_digits : (ds : List ℕ) → list_all is_digit ds ≡ true → AllDigits 10 ds
all_digits [] h = tt
all_digits (b ∷ ds) h = (digit_below b (grind arith), all_digits ds (grind arith))

pub no_plus : (ds : List ℕ) → list_all is_digit ds ≡ true → without_leading_plus ds ≡ ds
no_plus [] h = refl
no_plus (b ∷ ds) h = grind arith

tens : (n k m : ℕ) → n + k ≡ m → 10 ^ n ≤ 10 ^ m
tens n zero m e = let same : n ≡ m = omega (arith, e) in subst (λ (x : ℕ). 10 ^ n ≤ 10 ^ x) same (omega arith)
tens n (suc k) m e = let more = tens (suc n) k m (omega (arith, e)) in omega (arith, more, pow-suc 10 n)

below : (ds : List ℕ) → length ds ≤ 19 → AllDigits 10 ds → digits_value 10 ds < 2 ^ 64
below ds few all =
    let short = digits_value-lt 10 ds all in
    let most : 10 ^ length ds ≤ 10 ^ 19 = tens (length ds) (19 - length ds) 19 (omega (arith, few)) in
    let tens_are : 10 ^ 19 ≤ 2 ^ 64 = omega arith in
    omega (arith, short, most, tens_are)

-- no more digits than nineteen are no number only where there are none
pub no_number : (ds : List ℕ) → length ds ≤ 19 → list_all is_digit ds ≡ true → (IsNumeral 10 (without_leading_plus ds) × (digits_value 10 (without_leading_plus ds) < 2 ^ 64) → ⊥) → None ≡ number_of ds
no_number [] few digits not = refl
no_number (d ∷ ds) few digits not =
    let all = all_digits (d ∷ ds) digits in
    let some : 0 < length (d ∷ ds) = omega arith in
    absurd (not (subst (λ (l : List ℕ). IsNumeral 10 l × (digits_value 10 l < 2 ^ 64)) (sym (no_plus (d ∷ ds) digits)) ((some, all), below (d ∷ ds) few all)))
