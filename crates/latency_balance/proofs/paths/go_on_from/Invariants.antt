use Rattle.latency_balance.specs.Paths.{ArePaths}
use Rattle.latency_balance.proofs.paths.go_on_from.Given as goal

abbrev pub invariant-loop-place : goal.invariant-loop-place
invariant-loop-place l = ArePaths l.graph l.paths
