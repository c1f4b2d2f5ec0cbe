use Rattle.std.proofs.Common.{◌≡◌, ℕ, ◌<◌, true, false, length, get_or}
use Rattle.task_graph.specs.Arcs.{streams}
use Rattle.latency_balance.specs.Moves.{move_at}
use Rattle.latency_balance.proofs.cycle_test.is_once.Given as goal

abbrev pub invariant-loop-one : goal.invariant-loop-one
invariant-loop-one l = record {
  long : length l.seen.items ≡ streams l.graph;
  marked : (i : ℕ) → i < l.one-index → (move_at l.moves i).back ≡ true → get_or l.seen.items (move_at l.moves i).stream false ≡ true;
  once : (i j : ℕ) → i < j → j < l.one-index → (move_at l.moves i).back ≡ true → (move_at l.moves j).back ≡ true → (move_at l.moves i).stream ≡ (move_at l.moves j).stream → ⊥;
}
