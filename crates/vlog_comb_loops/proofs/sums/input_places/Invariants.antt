use Rattle.std.proofs.Common.{◌≡◌, length}
use Rattle.vlog_scope.specs.NameTable.{value_in}
use Rattle.vlog_comb_loops.proofs.Placing.{PlacesSoFar}
use Rattle.vlog_comb_loops.proofs.sums.input_places.Given as goal

abbrev pub invariant-loop-at : goal.invariant-loop-at
invariant-loop-at l = record {
  len : length l.places.items ≡ length l.graph.graph;
  so_far : PlacesSoFar l.ports l.declarations (value_in l.graph.numbers) l.at l.places.items;
}
