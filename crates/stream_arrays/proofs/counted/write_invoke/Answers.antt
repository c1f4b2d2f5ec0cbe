use Rattle.stream_arrays.specs.Words.{piece_word}
use Rattle.stream_arrays.specs.Writing.{writing}
use Rattle.stream_arrays.proofs.Writers.{said_map}
use Rattle.stream_arrays.proofs.counted.write_invoke.Goals as goal

pub loop-piece-preserved : goal.loop-piece-preserved
loop-piece-preserved c =
    said_map (piece_word c.args.text.now c.args.number) c.args.pieces.now c.loop-piece.piece-index _ (writing c.args.out.now) (writing c.loop-piece.out) (writing c.write_piece.new.out) c.loop-piece-test.true c.loop-piece.invariant c.in_ok-write_piece.ensures.ok
