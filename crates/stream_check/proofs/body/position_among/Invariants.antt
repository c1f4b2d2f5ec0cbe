use Rattle.std.proofs.Common.{◌≡◌, drop}
use Rattle.stream_check.specs.Programs as program
use Rattle.stream_check.proofs.body.position_among.Given as goal

abbrev pub invariant-loop-position : goal.invariant-loop-position
invariant-loop-position l = program.position_among 0 l.number l.numbers ≡ program.position_among l.position l.number (drop l.position l.numbers)
