-- Sums that are cut at the greatest number of 64 bits.
use Rattle.std.proofs.Common.{◌≡◌, ◌≤◌, ◌+◌, ◌-◌, ◌^◌, ℕ, zero, suc, List, [], ◌∷◌, map, drop, length, refl, sym, ap, ◌∙◌, arith}
use Rattle.tapa_syntax.specs.declared.program.Stmt.{Stmt}
use Rattle.tapa_syntax.specs.Flat.{flat_statement, in_row}
use Rattle.tapa_syntax.specs.TickPlaces.{capped, places_in}

drop-all : {A B : Type 0} (f : A → B) (i : ℕ) (xs : List A) → length xs ≤ i → map f (drop i xs) ≡ []
drop-all f zero [] h = refl
drop-all f zero (x ∷ xs) h = absurd (omega arith)
drop-all f (suc i) [] h = refl
drop-all f (suc i) (x ∷ xs) h = drop-all f i xs (omega arith)

pub kept : (p n : ℕ) → p ≤ 2 ^ 64 - 1 → n ≡ 0 → p ≡ capped (p + n)
kept p n h e = omega arith

pub places_end : (i : ℕ) (xs : List Stmt) (p total : ℕ) → capped total ≡ capped (p + places_in (in_row (map flat_statement (drop i xs)))) → p ≤ 2 ^ 64 - 1 → length xs ≤ i → p ≡ capped total
places_end i xs p total e h l = kept p (places_in (in_row (map flat_statement (drop i xs)))) h (ap (λ ss. places_in (in_row ss)) (drop-all flat_statement i xs l)) ∙ sym e
