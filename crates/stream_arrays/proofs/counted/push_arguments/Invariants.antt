use Rattle.std.proofs.Common.{◌≡◌, ◌-◌, suc, length}
use Rattle.stream_arrays.specs.Reading.{known}
use Rattle.stream_arrays.specs.Written as spec
use Rattle.stream_arrays.proofs.counted.push_arguments.Given as goal

abbrev pub invariant-loop-turn : goal.invariant-loop-turn
invariant-loop-turn l = spec.pieces_from l.text (known l.scope) l.count (suc (length l.inside)) l.fn.pieces.items l.inside ≡ spec.pieces_from l.text (known l.scope) l.count (l.turn-end - l.turn) l.pieces.items l.rest
