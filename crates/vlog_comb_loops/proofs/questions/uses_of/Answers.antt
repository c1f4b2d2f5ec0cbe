use Rattle.std.proofs.Common.{◌<◌, length, List, arith, subst}
use Rattle.vlog_tree.specs.declared.tree.Item.{Item}
use Rattle.tapa_base.proofs.Lists.{got_index}
use Rattle.vlog_comb_loops.specs.Questions.{AsksLines}
use Rattle.vlog_comb_loops.proofs.Asking.{uses_more, got_low}
use Rattle.vlog_comb_loops.proofs.questions.uses_of.Goals as goal

pub loop-at-preserved : goal.loop-at-preserved
loop-at-preserved c =
    let x = c.index-modules-at.result in
    uses_more c.loop-at.uses c.ask_lines.new.questions c.args.modules.now c.loop-at.at x c.in_ok-ask_lines.ensures.kept
    (got_index c.args.modules.now c.loop-at.at x c.loop-at-test.true c.index-modules-at.is)
    (subst (λ (l : List Item). AsksLines c.ask_lines.new.questions c.loop-at.at l) c.items.ensures.value c.in_ok-ask_lines.ensures.there) c.loop-at.invariant

pub returns : goal.returns
returns c = λ a k e.
    let low : a < length c.args.modules.now = got_low c.args.modules.now a k e in
    let over = c.loop-at-test.false in
    c.loop-at.invariant a k (omega (arith, over)) e
