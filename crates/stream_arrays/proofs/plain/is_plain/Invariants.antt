use Rattle.std.proofs.Common.{◌≡◌, length}
use Rattle.stream_arrays.specs.Plain as spec
use Rattle.stream_arrays.proofs.plain.is_plain.Given as goal

abbrev pub invariant-loop-left : goal.invariant-loop-left
invariant-loop-left l = spec.is_plain l.text l.left ≡ spec.is_plain l.text l.initial.left

abbrev pub decreases-loop-left : goal.decreases-loop-left
decreases-loop-left l = length l.left
