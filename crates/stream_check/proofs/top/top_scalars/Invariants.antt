use Rattle.std.proofs.Common.{◌≡◌, ◌++◌, length, map, drop}
use Rattle.tapa_syntax.specs.Flat.{flat_bound}
use Rattle.stream_check.specs.Programs as program
use Rattle.stream_check.proofs.top.top_scalars.Given as goal

abbrev pub invariant-loop-parameter : goal.invariant-loop-parameter
invariant-loop-parameter l = program.top_scalars 0 l.parameters ≡ map flat_bound l.scalars.items ++ program.top_scalars (length (map flat_bound l.scalars.items)) (drop l.parameter-index l.parameters)
