use Rattle.std.proofs.Common.{◌<◌, length, arith}
use Rattle.tapa_base.proofs.Lists.{got_index}
use Rattle.vlog_comb_loops.proofs.Asking.{suspects_more, got_low}
use Rattle.vlog_comb_loops.proofs.questions.questions_of.Goals as goal

pub loop-at-preserved : goal.loop-at-preserved
loop-at-preserved c =
    let x = c.index-suspects-at.result in
    suspects_more c.loop-at.questions c.ask_suspect.new.questions c.args.library.now c.args.suspects.now c.loop-at.at x c.in_ok-ask_suspect.ensures.kept
    (got_index c.args.suspects.now c.loop-at.at x c.loop-at-test.true c.index-suspects-at.is) c.in_ok-ask_suspect.ensures.there c.loop-at.invariant

pub returns : goal.returns
returns c = λ a s k e f.
    let low : a < length c.args.suspects.now = got_low c.args.suspects.now a s e in
    let over = c.loop-at-test.false in
    c.loop-at.invariant a s k (omega (arith, over)) e f
