use Rattle.std.proofs.Common.{◌≡◌, ℕ, length, take}
use Rattle.std.specs.Prelude.{◌↔◌}
use Rattle.tapa_base.specs.Lists.{Has}
use Rattle.number_graph.specs.Graphs.{targets_of}
use Rattle.number_graph.proofs.graph.rows_with.Given as goal

abbrev pub invariant-loop-edge : goal.invariant-loop-edge
invariant-loop-edge l = record {
  len : length l.rows.items ≡ l.count;
  edges : (j k : ℕ) → Has (targets_of l.rows.items j) k ↔ Has (take l.edge-index l.edges) (j, k);
}
