use Rattle.std.proofs.Common.{◌≡◌, ℕ, ◌<◌}
use Rattle.latency_balance.specs.Moves.{IsMove, end_of, move_at, place}
use Rattle.latency_balance.proofs.cycle_test.leads_back.Given as goal

abbrev pub invariant-loop-one : goal.invariant-loop-one
invariant-loop-one l = record {
  each : (j : ℕ) → j < l.one-index → IsMove l.graph l.flow (move_at l.moves j);
  ends : (j : ℕ) → j < l.one-index → end_of l.graph (move_at l.moves j) ≡ place l.graph l.base l.moves j;
  here : place l.graph l.base l.moves l.one-index ≡ l.at;
}
