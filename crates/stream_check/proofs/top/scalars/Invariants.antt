use Rattle.std.proofs.Common.{◌≡◌, ◌++◌, drop}
use Rattle.stream_check.specs.Programs as program
use Rattle.stream_check.proofs.top.scalars.Given as goal

abbrev pub invariant-loop-parameter : goal.invariant-loop-parameter
invariant-loop-parameter l = program.scalars_of l.parameters ≡ l.scalars.items ++ program.scalars_of (drop l.parameter-index l.parameters)
