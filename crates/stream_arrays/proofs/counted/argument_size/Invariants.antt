use Rattle.std.proofs.Common.{◌≡◌, ◌≤◌, ◌+◌, drop}
use Rattle.stream_arrays.specs.Forms as spec
use Rattle.stream_arrays.proofs.counted.argument_size.Given as goal

abbrev pub invariant-loop-at : goal.invariant-loop-at
invariant-loop-at l = record {
  sum : l.at + spec.argument_size l.text l.level (drop l.at l.lexemes) ≡ spec.argument_size l.text 0 l.lexemes;
  within : l.level ≤ l.at;
}
