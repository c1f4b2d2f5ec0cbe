use Rattle.std.proofs.Common.{◌≡◌, ◌-◌, [], length}
use Rattle.stream_arrays.specs.Forms as spec
use Rattle.stream_arrays.proofs.declaration.names.Given as goal

abbrev pub invariant-loop-turn : goal.invariant-loop-turn
invariant-loop-turn l = spec.names_from l.text (length l.lexemes) [] l.lexemes ≡ spec.names_from l.text (l.turn-end - l.turn) l.names.items l.rest
