use Rattle.std.proofs.Common.{◌≡◌, length}
use Rattle.stream_arrays.specs.Words as words
use Rattle.stream_arrays.proofs.standing.end_of.Given as goal

abbrev pub invariant-loop-left : goal.invariant-loop-left
invariant-loop-left l = words.end_of l.end l.left ≡ words.end_of l.initial.end l.initial.left

abbrev pub decreases-loop-left : goal.decreases-loop-left
decreases-loop-left l = length l.left
