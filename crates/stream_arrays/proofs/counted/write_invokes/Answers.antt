use Rattle.std.proofs.Common.{map, sym, ◌∙◌, arith}
use Rattle.stream_arrays.specs.Words.{piece_word}
use Rattle.stream_arrays.specs.Writing.{writing}
use Rattle.stream_arrays.proofs.Writers.{said_below, full_below}
use Rattle.stream_arrays.proofs.counted.write_invokes.Goals as goal

pub loop-number-preserved : goal.loop-number-preserved
loop-number-preserved c =
    said_below (λ i. map (piece_word c.args.text.now i) c.args.pieces.now) c.loop-number.number (writing c.args.out.now) (writing c.loop-number.out) (writing c.write_invoke.new.out) c.loop-number.invariant c.in_ok-write_invoke.ensures.ok

pub returns-then-is_full-clause-ok : goal.returns-then-is_full-clause-ok
returns-then-is_full-clause-ok c =
    full_below (λ i. map (piece_word c.args.text.now i) c.args.pieces.now) c.loop-number.number c.args.count (writing c.args.out.now) (writing c.loop-number.out) (omega (arith, c.loop-number-test.true)) c.loop-number.invariant
    (sym c.is_full.ensures ∙ c.if-is_full.true)
