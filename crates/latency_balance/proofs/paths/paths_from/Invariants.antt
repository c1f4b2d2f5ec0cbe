use Rattle.latency_balance.specs.Paths.{ArePaths}
use Rattle.latency_balance.proofs.paths.paths_from.Given as goal

abbrev pub invariant-groups : goal.invariant-groups
invariant-groups l = ArePaths l.graph l.paths
