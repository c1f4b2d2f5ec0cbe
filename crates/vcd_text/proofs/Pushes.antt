-- Identifiers and binary digits that are written one digit after another.
use Rattle.std.proofs.Common.{◌≡◌, ℕ, ◌+◌, ◌*◌, ◌/◌, ◌%◌, ◌<◌, ◌≤◌, [], ◌∷◌, ◌++◌, sym, ap, ◌∙◌, append_assoc, arith}
use Rattle.tapa_base.specs.Gaps.{Bytes}
use Rattle.vcd_text.specs.Dump.{identifier, binary}
use Rattle.vcd_text.proofs.Digits.{binary_more, small_bits}
use Rattle.vcd_text.proofs.Identifiers.{identifier_small, identifier_big}

pub pushed_last : (old new : Bytes) (k : ℕ) → k < 94 → new ≡ old ++ (33 + k % 94) ∷ [] → new ≡ old ++ identifier k
pushed_last old new k h e = e ∙ ap (λ (l : Bytes). old ++ l) (sym (identifier_small k h))

pub pushed_digit : (old mid new : Bytes) (k : ℕ) → 94 ≤ k → mid ≡ old ++ (33 + k % 94) ∷ [] → new ≡ mid ++ identifier (k / 94) → new ≡ old ++ identifier k
pushed_digit old mid new k h e f = f ∙ ap (λ (l : Bytes). l ++ identifier (k / 94)) e ∙ append_assoc old ((33 + k % 94) ∷ []) (identifier (k / 94)) ∙ ap (λ (l : Bytes). old ++ l) (sym (identifier_big k h))

pub binary_low : (v : ℕ) → v < 2 → binary v ≡ (48 + v % 2) ∷ []
unfolding binary
binary_low v h = small_bits v v h

pub binary_high : (v : ℕ) → 2 ≤ v → binary v ≡ binary (v / 2) ++ (48 + v % 2) ∷ []
binary_high v h = let whole : v ≡ 2 * (v / 2) + v % 2 = omega arith in ap (λ (k : ℕ). binary k) whole ∙ binary_more (v / 2) (v % 2) (omega arith) (omega arith)

pub pushed_bit : (old new : Bytes) (v : ℕ) → v < 2 → new ≡ old ++ (48 + v % 2) ∷ [] → new ≡ old ++ binary v
pushed_bit old new v h e = e ∙ ap (λ (l : Bytes). old ++ l) (sym (binary_low v h))

pub pushed_bits : (old mid new : Bytes) (v : ℕ) → 2 ≤ v → mid ≡ old ++ binary (v / 2) → new ≡ mid ++ (48 + v % 2) ∷ [] → new ≡ old ++ binary v
pushed_bits old mid new v h e f = f ∙ ap (λ (l : Bytes). l ++ (48 + v % 2) ∷ []) e ∙ append_assoc old (binary (v / 2)) ((48 + v % 2) ∷ []) ∙ ap (λ (l : Bytes). old ++ l) (sym (binary_high v h))

-- two parts behind a text
pub both_behind : (t u v a b : Bytes) → u ≡ t ++ a → v ≡ u ++ b → v ≡ t ++ (a ++ b)
both_behind t u v a b e f = f ∙ ap (λ (l : Bytes). l ++ b) e ∙ append_assoc t a b
