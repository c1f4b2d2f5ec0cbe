-- The place behind the last byte of a text, by its lines and by the bytes behind the last line feed.
use Rattle.std.proofs.Common.{◌≡◌, ℕ, suc, ◌+◌, ◌≤◌, Bool, cond, [], ◌∷◌, ◌++◌, length, inl, inr, refl, sym, ap, ◌∙◌, arith, nat_eq}
use Rattle.std.specs.Prelude.{not, reverse, count_by, take_while}
use Rattle.std.proofs.lemmas.List.{length-append, reverse-append, reverse-reverse}
use Rattle.std.proofs.lemmas.List.Sums.{count_by-le-length, take_while-cons}
use Rattle.tapa_base.specs.declared.text.Place.{Place}
use Rattle.tapa_base.specs.Gaps.{Bytes}
use Rattle.tapa_syntax.specs.Characters.{last_line, place_of}
use Rattle.tapa_syntax.proofs.Places.{line_after_feed, line_after_byte, col_within, place_same}
use Rattle.tapa_base.proofs.Tests.{bool_cases as yes_or_no}

abbrev in_line : ℕ → Bool
in_line b = not (nat_eq b 10)

front_bytes : (z : Bytes) → length (take_while in_line z) ≡ length (last_line (reverse z))
front_bytes [] = refl
front_bytes (b ∷ z) = elim (yes_or_no (nat_eq b 10)) [
  | inl t ↦
      let none : length (take_while in_line (b ∷ z)) ≡ 0 = ap (λ (l : Bytes). length l) (take_while-cons in_line b z) ∙ ap (λ (c : Bool). length (cond (not c) (b ∷ take_while in_line z) [])) t in
      let empty : length (last_line (reverse (b ∷ z))) ≡ 0 = ap (λ (l : Bytes). length (last_line l)) (reverse-append (b ∷ []) z) ∙ ap (λ (l : Bytes). length l) (line_after_feed (reverse z) b t) in
      none ∙ sym empty
  | inr f ↦
      let some : length (take_while in_line (b ∷ z)) ≡ suc (length (take_while in_line z)) = ap (λ (l : Bytes). length l) (take_while-cons in_line b z) ∙ ap (λ (c : Bool). length (cond (not c) (b ∷ take_while in_line z) [])) f in
      let more : length (last_line (reverse (b ∷ z))) ≡ length (last_line (reverse z) ++ b ∷ []) = ap (λ (l : Bytes). length (last_line l)) (reverse-append (b ∷ []) z) ∙ ap (λ (l : Bytes). length l) (line_after_byte (reverse z) b f) in
      omega (arith, some, more, length-append (last_line (reverse z)) (b ∷ []), front_bytes z)
]

last_bytes : (text : Bytes) → length (take_while (λ b. not (nat_eq b 10)) (reverse text)) ≡ length (last_line text)
last_bytes text = front_bytes (reverse text) ∙ ap (λ (l : Bytes). length (last_line l)) (reverse-reverse text)

pub ends_within : (text : Bytes) → count_by (λ b. nat_eq b 10) text ≤ length text
ends_within text = count_by-le-length (λ b. nat_eq b 10) text

pub bytes_within : (text : Bytes) → length (take_while (λ b. not (nat_eq b 10)) (reverse text)) ≤ length text
bytes_within text = omega (arith, last_bytes text, col_within text)

pub place_is : (text : Bytes) (lines bytes : ℕ) → lines ≡ count_by (λ b. nat_eq b 10) text → bytes ≡ length (take_while (λ b. not (nat_eq b 10)) (reverse text)) → let p : Place = record { line = lines + 1; col = bytes + 1 } in p ≡ place_of text
place_is text lines bytes e f = place_same (lines + 1) (bytes + 1) (1 + count_by (λ b. nat_eq b 10) text) (1 + length (last_line text)) (omega (arith, e)) (omega (arith, f, last_bytes text))
