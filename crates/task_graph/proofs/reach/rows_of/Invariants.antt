use Rattle.std.proofs.Common.{◌≡◌, ℕ, ◌<◌, true, length, [], ◌∷◌}
use Rattle.std.specs.Prelude.{◌↔◌}
use Rattle.number_graph.specs.Graphs.{IsReached}
use Rattle.task_graph.specs.Reach.{mark}
use Rattle.task_graph.proofs.reach.rows_of.Given as goal

abbrev pub invariant-loop-node : goal.invariant-loop-node
invariant-loop-node l = record {
  len : length l.rows.items ≡ l.node;
  marks : (i k : ℕ) → i < l.node → (mark l.rows.items i k ≡ true) ↔ IsReached l.graph (i ∷ []) k;
}
