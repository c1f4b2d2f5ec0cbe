use Rattle.std.proofs.Common.{◌<◌, length}
use Rattle.latency_balance.proofs.paths.cheapest.Given as goal

abbrev pub invariant-loop-place : goal.invariant-loop-place
invariant-loop-place l = l.best < length l.reached
