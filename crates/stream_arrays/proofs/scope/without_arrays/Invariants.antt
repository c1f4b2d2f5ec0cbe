use Rattle.std.proofs.Common.{◌≡◌, [], take, drop}
use Rattle.stream_arrays.specs.Written as spec
use Rattle.stream_arrays.proofs.scope.without_arrays.Given as goal

abbrev pub invariant-loop-at : goal.invariant-loop-at
invariant-loop-at l = spec.without_arrays l.text l.arrays (take l.at l.lexemes) (drop l.at l.lexemes) ≡ spec.without_arrays l.text l.arrays [] l.lexemes
