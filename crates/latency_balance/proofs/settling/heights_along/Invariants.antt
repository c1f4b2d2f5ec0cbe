use Rattle.std.proofs.Common.{◌≡◌, length}
use Rattle.latency_balance.proofs.settling.heights_along.Given as goal

abbrev pub invariant-rounds : goal.invariant-rounds
invariant-rounds l = length l.heights.items ≡ l.graph.groups
