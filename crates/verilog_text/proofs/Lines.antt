-- The first line of a text.
use Rattle.std.proofs.Common.{◌≡◌, ℕ, zero, suc, ◌+◌, ◌-◌, ◌<◌, ◌≤◌, List, [], ◌∷◌, ◌++◌, length, get_or, take, inl, inr, refl, sym, ap, subst, ◌∙◌, arith}
use Rattle.std.proofs.lemmas.List.{take_more, length-take-le}
use Rattle.tapa_base.specs.Lists.{Has}
use Rattle.tapa_base.proofs.Lists.{taken_split}
use Rattle.verilog_text.specs.Lines.{IsLine, EndsLine}

has_taken : (n : ℕ) (xs : List ℕ) (y : ℕ) → Has (take n xs) y → Has xs y
has_taken zero xs y h = absurd h
has_taken (suc n) [] y h = h
has_taken (suc n) (x ∷ xs) y (inl e) = inl e
has_taken (suc n) (x ∷ xs) y (inr h) = inr (has_taken n xs y h)

front_taken : (n : ℕ) (xs : List ℕ) (y : ℕ) → Has (take n (take (suc n) xs)) y → Has (take n xs) y
front_taken zero xs y h = absurd h
front_taken (suc n) [] y h = h
front_taken (suc n) (x ∷ xs) y (inl e) = inl e
front_taken (suc n) (x ∷ xs) y (inr h) = inr (front_taken n xs y h)

whole : (n : ℕ) (xs : List ℕ) → length xs ≤ n → take n xs ≡ xs
whole zero [] h = refl
whole (suc n) [] h = refl
whole zero (x ∷ xs) h = absurd (omega arith)
whole (suc n) (x ∷ xs) h = ap (λ l. x ∷ l) (whole n xs (omega arith))

module _ (text : List ℕ) (at : ℕ) (before : Has (take at text) 10 → ⊥) where
  taken : (byte : ℕ) → at < length text → byte ≡ get_or text at byte → take (at + 1) text ≡ take at text ++ byte ∷ []
  taken byte h e = take_more text at byte h ∙ ap (λ z. take at text ++ z ∷ []) (sym e)

  -- a byte that ends the line
  pub ended_line : (byte : ℕ) → at < length text → byte ≡ get_or text at byte → byte ≡ 10 → IsLine (take (at + 1) text) × EndsLine (take (at + 1) text)
  ended_line byte h e lf =
      let len : length (take (at + 1) text) ≡ at + 1 = length-take-le (at + 1) text (omega arith) in
      let last : length (take (at + 1) text) - 1 ≡ at = omega (arith, len) in
      let next : at + 1 ≡ suc at = omega arith in (
        λ f. before (front_taken at text 10 (subst (λ k. Has (take at (take k text)) 10) next (subst (λ k. Has (take k (take (at + 1) text)) 10) last f))),
        (take at text, subst (λ z. take (at + 1) text ≡ take at text ++ z ∷ []) lf (taken byte h e)),
      )

  -- a byte that doesn't
  pub goes_on : (byte : ℕ) → at < length text → byte ≡ get_or text at byte → (byte ≡ 10 → ⊥) → Has (take (at + 1) text) 10 → ⊥
  goes_on byte h e other f = elim (taken_split text at byte 10 h e f) [ inl l ↦ before l | inr s ↦ other s ]

  -- the text's end
  pub last_line : length text ≤ at → (n : ℕ) → length text ≤ n → IsLine (take n text)
  last_line h n g f =
      before (subst (λ l. Has l 10) (sym (whole at text h)) (has_taken _ text 10 (subst (λ l. Has (take (length l - 1) l) 10) (whole n text g) f)))
