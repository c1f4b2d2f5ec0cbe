use Rattle.std.proofs.Common.{◌≡◌, drop}
use Rattle.stream_check.specs.Programs as program
use Rattle.stream_check.proofs.body.is_among.Given as goal

abbrev pub invariant-loop-one : goal.invariant-loop-one
invariant-loop-one l = program.is_among l.number l.numbers ≡ program.is_among l.number (drop l.one-index l.numbers)
