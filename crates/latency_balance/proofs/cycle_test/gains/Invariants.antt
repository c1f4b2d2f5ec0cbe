use Rattle.std.proofs.Common.{◌≡◌, ◌≤◌, ◌*◌}
use Rattle.task_graph.specs.Arcs.{total}
use Rattle.latency_balance.specs.Moves.{gain_of, loss_of, move_at}
use Rattle.latency_balance.proofs.cycle_test.gains.Given as goal

abbrev pub invariant-loop-one : goal.invariant-loop-one
invariant-loop-one l = record {
  gain : l.gain ≡ total l.one-index (λ j. gain_of l.lat (move_at l.moves j));
  loss : l.loss ≡ total l.one-index (λ j. loss_of l.lat (move_at l.moves j));
  gain_low : l.gain ≤ 160 * l.one-index;
  loss_low : l.loss ≤ 160 * l.one-index;
}
