use Rattle.std.proofs.Common.{◌<◌, ◌≤◌, ◌+◌, ◌-◌, length}
use Rattle.latency_balance.proofs.paths.moves_around.Given as goal

abbrev pub invariant-path : goal.invariant-path
invariant-path l = record {
  inside : l.at < l.graph.groups;
  few : length l.moves.items ≤ l.graph.groups + 1;
}

abbrev pub decreases-path : goal.decreases-path
decreases-path l = l.graph.groups + 1 - length l.moves.items
