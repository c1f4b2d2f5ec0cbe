use Rattle.std.proofs.Common.{◌≡◌, length}
use Rattle.stream_arrays.specs.Standing as spec
use Rattle.stream_arrays.proofs.standing.stand.Given as goal

abbrev pub invariant-loop-wanted : goal.invariant-loop-wanted
invariant-loop-wanted l = spec.stand l.text l.wanted l.rest ≡ spec.stand l.text l.initial.wanted l.initial.rest

abbrev pub decreases-loop-wanted : goal.decreases-loop-wanted
decreases-loop-wanted l = length l.wanted
