-- The changes of a dump, net by net, are the cycles in which values change.
use Rattle.std.proofs.Common.{◌≡◌, ◌≢◌, ℕ, zero, suc, ◌+◌, ◌<◌, ◌≤◌, Bool, true, false, cond, List, [], ◌∷◌, ◌++◌, length, get_or, take, inl, inr, append-nil, refl, ap, ◌∙◌, arith, eq-eqb}
use Rattle.std.proofs.lemmas.List.{take_more}
use Rattle.std.proofs.lemmas.Bool.{cases_eq}
use Rattle.std.proofs.lemmas.Grind.{flat_map-append}
use Rattle.tapa_base.specs.Gaps.{Bytes}
use Rattle.vcd_text.specs.Nets.{Net}
use Rattle.vcd_text.specs.Dump.{Values, is_change}
use Rattle.vcd_text.specs.Read.{changes_from, changes_to}
use Rattle.vcd_text.specs.declared.dump.Change.{Change}
use Rattle.vcd_text.specs.NetLines.{value_line, value_lines, line_of, lines_of}
use Rattle.tapa_base.proofs.Tests.{differs as other_test}

abbrev change_at : Values → ℕ → ℕ → Change
change_at v n j = record { cycle = n; net = j; value = v n j }

abbrev one_change : Values → ℕ → ℕ → List Change
one_change v n j = cond (is_change v n j) (change_at v n j ∷ []) []

-- the line of a net's own change, and none of another
own : (v : Values) (n k : ℕ) (b : Bool) → lines_of k (cond b (change_at v n k ∷ []) []) ≡ cond b (value_line n (v n k)) []
own v n k true = append-nil (line_of k (change_at v n k)) ∙ ap (λ (t : Bool). cond t (value_line n (v n k)) []) (eq-eqb k k refl)
own v n k false = refl

other : (v : Values) (n j k : ℕ) → j ≢ k → (b : Bool) → lines_of k (cond b (change_at v n j ∷ []) []) ≡ []
other v n j k ne true = append-nil (line_of k (change_at v n j)) ∙ ap (λ (t : Bool). cond t (value_line n (v n j)) []) (other_test j k ne)
other v n j k ne false = refl

behind : (v : Values) (n k j : ℕ) (xs : List Net) → k < j → lines_of k (changes_from v n j xs) ≡ []
behind v n k j [] low = refl
behind v n k j (x ∷ xs) low =
    flat_map-append (line_of k) (one_change v n j) (changes_from v n (suc j) xs)
    ∙ ap (λ (l : Bytes). l ++ lines_of k (changes_from v n (suc j) xs)) (other v n j k (λ e. absurd (omega arith)) (is_change v n j))
    ∙ behind v n k (suc j) xs (omega arith)

-- the lines of a net of one cycle
in_cycle : (v : Values) (n k j : ℕ) (xs : List Net) → j ≤ k → k < j + length xs → lines_of k (changes_from v n j xs) ≡ cond (is_change v n k) (value_line n (v n k)) []
in_cycle v n k j [] low high = absurd (omega arith)
in_cycle v n k j (x ∷ xs) low high = elim (cases_eq j k) [
  | inl e ↦
      flat_map-append (line_of k) (one_change v n j) (changes_from v n (suc j) xs)
      ∙ ap (λ (l : Bytes). lines_of k (one_change v n j) ++ l) (behind v n k (suc j) xs (omega arith))
      ∙ append-nil (lines_of k (one_change v n j))
      ∙ ap (λ (i : ℕ). lines_of k (one_change v n i)) e
      ∙ own v n k (is_change v n k)
  | inr ne ↦
      flat_map-append (line_of k) (one_change v n j) (changes_from v n (suc j) xs)
      ∙ ap (λ (l : Bytes). l ++ lines_of k (changes_from v n (suc j) xs)) (other v n j k ne (is_change v n j))
      ∙ in_cycle v n k (suc j) xs (omega arith) (omega arith)
]

-- and of all
pub net_lines : (nets : List Net) (v : Values) (last k : ℕ) → k < length nets → lines_of k (changes_to nets v last) ≡ value_lines (λ n. v n k) last
net_lines nets v zero k low = in_cycle v 0 k 0 nets (omega arith) (omega arith)
net_lines nets v (suc n) k low =
    flat_map-append (line_of k) (changes_to nets v n) (changes_from v (suc n) 0 nets)
    ∙ ap (λ (l : Bytes). l ++ lines_of k (changes_from v (suc n) 0 nets)) (net_lines nets v n k low)
    ∙ ap (λ (l : Bytes). value_lines (λ m. v m k) n ++ l) (in_cycle v (suc n) k 0 nets (omega arith) (omega arith))

-- one change more
pub more_lines : (k : ℕ) (xs : List Change) (i : ℕ) (d : Change) → i < length xs → lines_of k (take (i + 1) xs) ≡ lines_of k (take i xs) ++ line_of k (get_or xs i d)
more_lines k xs i d low =
    ap (λ (l : List Change). lines_of k l) (take_more xs i d low) ∙ flat_map-append (line_of k) (take i xs) (get_or xs i d ∷ []) ∙ ap (λ (l : Bytes). lines_of k (take i xs) ++ l) (append-nil (line_of k (get_or xs i d)))
