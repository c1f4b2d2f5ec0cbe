use Rattle.std.proofs.Common.{◌≡◌}
use Rattle.stream_arrays.specs.Words.{invoke_words}
use Rattle.stream_arrays.specs.Writing.{writing, said}
use Rattle.stream_arrays.proofs.counted.write_invokes.Given as goal

abbrev pub invariant-loop-number : goal.invariant-loop-number
invariant-loop-number l = writing l.out ≡ said (writing l.fn.out) (invoke_words l.text l.pieces l.number)
