use Rattle.std.proofs.Common.{◌≡◌, drop}
use Rattle.std.specs.List.{list_any}
use Rattle.stream_check.specs.Programs as program
use Rattle.stream_check.proofs.top.has_stream.Given as goal

abbrev pub invariant-loop-parameter : goal.invariant-loop-parameter
invariant-loop-parameter l = list_any program.is_stream_parameter l.parameters ≡ list_any program.is_stream_parameter (drop l.parameter-index l.parameters)
