use Rattle.std.proofs.Common.{◌≡◌, map, take}
use Rattle.stream_arrays.specs.Words.{piece_word}
use Rattle.stream_arrays.specs.Writing.{writing, said}
use Rattle.stream_arrays.proofs.counted.write_invoke.Given as goal

abbrev pub invariant-loop-piece : goal.invariant-loop-piece
invariant-loop-piece l = writing l.out ≡ said (writing l.fn.out) (map (piece_word l.text l.number) (take l.piece-index l.pieces))
