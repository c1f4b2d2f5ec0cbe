-- Sums that are cut at the greatest number of 64 bits.
use Rattle.std.proofs.Common.{◌≡◌, ◌≤◌, ◌+◌, ◌-◌, ◌^◌, ℕ, List, map, drop, length, sym, ap, ◌∙◌, arith}
use Rattle.std.proofs.lemmas.List.{drop_all}
use Rattle.tapa_syntax.specs.declared.program.Stmt.{Stmt}
use Rattle.tapa_syntax.specs.Flat.{flat_statement, in_row}
use Rattle.tapa_syntax.specs.LeafKinds.{Kinds}
use Rattle.tapa_syntax.specs.TickPlaces.{capped}
use Rattle.task_graph.specs.Estimate.{Rates, in_statements}
use Rattle.tapa_syntax.proofs.Sums.{kept}

-- the sum over all of a code
pub code_end : (R : Rates) (K : Kinds) (i : ℕ) (xs : List Stmt) (p total : ℕ) → capped total ≡ capped (p + in_statements R K (in_row (map flat_statement (drop i xs)))) → p ≤ 2 ^ 64 - 1 → length xs ≤ i → p ≡ capped total
code_end R K i xs p total e h l = kept p (in_statements R K (in_row (map flat_statement (drop i xs)))) h (ap (λ ss. in_statements R K (in_row (map flat_statement ss))) (drop_all i xs l)) ∙ sym e
