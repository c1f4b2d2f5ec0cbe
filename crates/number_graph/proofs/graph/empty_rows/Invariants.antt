use Rattle.std.proofs.Common.{◌≡◌, ℕ, length, []}
use Rattle.number_graph.specs.Graphs.{targets_of}
use Rattle.number_graph.proofs.graph.empty_rows.Given as goal

abbrev pub invariant-loop : goal.invariant-loop
invariant-loop l = record {
  len : length l.rows.items ≡ l.counter;
  empty : (j : ℕ) → targets_of l.rows.items j ≡ [];
}
