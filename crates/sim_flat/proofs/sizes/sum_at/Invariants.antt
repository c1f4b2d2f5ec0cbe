use Rattle.std.proofs.Common.{◌+◌, ◌≤◌, drop}
use Rattle.sim_flat.specs.Sizes.{sum_at}
use Rattle.sim_flat.proofs.sizes.sum_at.Given as goal

abbrev pub invariant-loop-kind : goal.invariant-loop-kind
invariant-loop-kind l = l.sum + sum_at l.counts (drop l.kind-index l.kinds) ≤ l.more + sum_at l.counts l.kinds
