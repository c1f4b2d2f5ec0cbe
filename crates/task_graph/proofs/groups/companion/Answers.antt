use Rattle.std.proofs.Common.{sym, arith, below_more}
use Rattle.task_graph.specs.Reach.{MarkEachOther}
use Rattle.task_graph.proofs.Numbering.{mark_each_other, mark_not_both}
use Rattle.task_graph.proofs.groups.companion.Goals as goal

pub returns-then-mark_both : goal.returns-then-mark_both
returns-then-mark_both c = (c.loop-j-test.true, mark_each_other c.args.rows.now c.args.i c.loop-j.j (sym c.if-mark_both.ensures))

pub loop-j-preserved : goal.loop-j-preserved
loop-j-preserved c =
    below_more (λ j. MarkEachOther c.args.rows.now j c.args.i → ⊥) c.loop-j.j c.loop-j.invariant
    (mark_not_both c.args.rows.now c.args.i c.loop-j.j c.loop-j-test.true (sym c.if-mark_both.ensures))

pub returns : goal.returns
returns c = λ j l. c.loop-j.invariant j (omega arith)
