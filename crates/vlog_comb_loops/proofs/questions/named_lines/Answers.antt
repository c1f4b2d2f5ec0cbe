use Rattle.std.proofs.Common.{◌<◌, length, arith}
use Rattle.tapa_base.proofs.Lists.{got_index}
use Rattle.vlog_comb_loops.proofs.Asking.{lines_more, got_low}
use Rattle.vlog_comb_loops.proofs.questions.named_lines.Goals as goal

pub loop-line-preserved : goal.loop-line-preserved
loop-line-preserved c =
    let x = c.index-items-line.result in
    lines_more (λ m i. i) c.loop-line.named c.name_line.new.named c.args.at c.args.items.now c.loop-line.line x c.in_ok-name_line.ensures.kept
    (got_index c.args.items.now c.loop-line.line x c.loop-line-test.true c.index-items-line.is) c.in_ok-name_line.ensures.there c.loop-line.invariant

pub returns : goal.returns
returns c = λ j item m i e h.
    let low : j < length c.args.items.now = got_low c.args.items.now j item e in
    let over = c.loop-line-test.false in
    c.loop-line.invariant j item m i (omega (arith, over)) e h
