-- Lines of the head, and what is left of a dump behind each.
use Rattle.std.proofs.Common.{◌≡◌, ℕ, zero, suc, ◌+◌, cond, List, [], ◌∷◌, ◌++◌, refl, sym, ap, ◌∙◌, append_assoc, arith}
use Rattle.std.specs.Prelude.{None}
use Rattle.std.proofs.lemmas.List.{append-nil}
use Rattle.tapa_base.specs.Gaps.{Bytes}
use Rattle.vcd_text.specs.Nets.{Net}
use Rattle.vcd_text.specs.Dump.{Values, is_change, lines_from, cycle_line, cycle_text, cycles_text}
use Rattle.vcd_text.specs.Read.{changes_from, changes_to}
use Rattle.vcd_text.specs.Rest.{Row, Known, known, row_line, row_changes, rest_of, later_text, later_changes}
use Rattle.vcd_text.specs.declared.dump.Change.{Change}

-- ---- the cycles, from the first on

abbrev one_cycle : List Net → ℕ → Known → Row → Bytes
one_cycle nets n p q = cycle_line n ++ lines_from (row_line p q) 0 nets

later_last : (nets : List Net) (d n : ℕ) (u : Values) → later_text nets n u (suc d) ≡ later_text nets n u d ++ one_cycle nets (n + d + 1) (known (u d)) (u (suc d))
later_last nets zero n u = append-nil (one_cycle nets (n + 1) (known (u 0)) (u 1)) ∙ ap (λ (k : ℕ). one_cycle nets k (known (u 0)) (u 1)) (omega arith)
later_last nets (suc d) n u =
    ap (λ (l : Bytes). one_cycle nets (n + 1) (known (u 0)) (u 1) ++ l) (later_last nets d (n + 1) (rest_of u))
    ∙ sym (append_assoc (one_cycle nets (n + 1) (known (u 0)) (u 1)) (later_text nets (n + 1) (rest_of u) d) (one_cycle nets (n + 1 + d + 1) (known (u (suc d))) (u (suc (suc d)))))
    ∙ ap (λ (k : ℕ). later_text nets n u (suc d) ++ one_cycle nets k (known (u (suc d))) (u (suc (suc d)))) (omega arith)

later_changes_last : (nets : List Net) (d n : ℕ) (u : Values) → later_changes nets n u (suc d) ≡ later_changes nets n u d ++ row_changes (known (u d)) (u (suc d)) (n + d + 1) 0 nets
later_changes_last nets zero n u = append-nil (row_changes (known (u 0)) (u 1) (n + 1) 0 nets) ∙ ap (λ (k : ℕ). row_changes (known (u 0)) (u 1) k 0 nets) (omega arith)
later_changes_last nets (suc d) n u =
    ap (λ (l : List Change). row_changes (known (u 0)) (u 1) (n + 1) 0 nets ++ l) (later_changes_last nets d (n + 1) (rest_of u))
    ∙ sym (append_assoc (row_changes (known (u 0)) (u 1) (n + 1) 0 nets) (later_changes nets (n + 1) (rest_of u) d) (row_changes (known (u (suc d))) (u (suc (suc d))) (n + 1 + d + 1) 0 nets))
    ∙ ap (λ (k : ℕ). later_changes nets n u (suc d) ++ row_changes (known (u (suc d))) (u (suc (suc d))) k 0 nets) (omega arith)

pub cycles_are : (nets : List Net) (v : Values) (last : ℕ) → cycles_text nets v last ≡ one_cycle nets 0 (λ _. None) (v 0) ++ later_text nets 0 v last
cycles_are nets v zero = sym (append-nil (one_cycle nets 0 (λ _. None) (v 0)))
cycles_are nets v (suc n) =
    ap (λ (l : Bytes). l ++ cycle_text nets v (suc n)) (cycles_are nets v n)
    ∙ append_assoc (one_cycle nets 0 (λ _. None) (v 0)) (later_text nets 0 v n) (one_cycle nets (suc n) (known (v n)) (v (suc n)))
    ∙ ap (λ (k : ℕ). one_cycle nets 0 (λ _. None) (v 0) ++ (later_text nets 0 v n ++ one_cycle nets k (known (v n)) (v (suc n)))) (omega arith)
    ∙ ap (λ (l : Bytes). one_cycle nets 0 (λ _. None) (v 0) ++ l) (sym (later_last nets n 0 v))

first_changes : (v : Values) (k : ℕ) (nets : List Net) → changes_from v 0 k nets ≡ row_changes (λ _. None) (v 0) 0 k nets
first_changes v k [] = refl
first_changes v k (x ∷ nets) = ap (λ (l : List Change). record { cycle = 0; net = k; value = v 0 k } ∷ l) (first_changes v (suc k) nets)

next_changes : (v : Values) (n k : ℕ) (nets : List Net) → changes_from v (suc n) k nets ≡ row_changes (known (v n)) (v (suc n)) (suc n) k nets
next_changes v n k [] = refl
next_changes v n k (x ∷ nets) = ap (λ (l : List Change). cond (is_change v (suc n) k) (record { cycle = suc n; net = k; value = v (suc n) k } ∷ []) [] ++ l) (next_changes v n (suc k) nets)

pub changes_are : (nets : List Net) (v : Values) (last : ℕ) → changes_to nets v last ≡ row_changes (λ _. None) (v 0) 0 0 nets ++ later_changes nets 0 v last
changes_are nets v zero = first_changes v 0 nets ∙ sym (append-nil (row_changes (λ _. None) (v 0) 0 0 nets))
changes_are nets v (suc n) =
    ap (λ (l : List Change). l ++ changes_from v (suc n) 0 nets) (changes_are nets v n)
    ∙ ap (λ (l : List Change). (row_changes (λ _. None) (v 0) 0 0 nets ++ later_changes nets 0 v n) ++ l) (next_changes v n 0 nets)
    ∙ append_assoc (row_changes (λ _. None) (v 0) 0 0 nets) (later_changes nets 0 v n) (row_changes (known (v n)) (v (suc n)) (suc n) 0 nets)
    ∙ ap (λ (k : ℕ). row_changes (λ _. None) (v 0) 0 0 nets ++ (later_changes nets 0 v n ++ row_changes (known (v n)) (v (suc n)) k 0 nets)) (omega arith)
    ∙ ap (λ (l : List Change). row_changes (λ _. None) (v 0) 0 0 nets ++ l) (sym (later_changes_last nets n 0 v))
