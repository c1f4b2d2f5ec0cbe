use Rattle.std.proofs.Common.{◌∙◌, ap, take, min}
use Rattle.std.specs.Prelude.{count_by}
use Rattle.vlog_tree.specs.V4.{is_block_of}
use Rattle.vlog_rules.proofs.Counts.{count_more}
use Rattle.vlog_rules.proofs.drivers.block_counts.Goals as goal

pub loop-i-preserved : goal.loop-i-preserved
loop-i-preserved c = λ x.
    c.in_ok-count_blocks_of.ensures (λ y. count_by (is_block_of y) (take c.loop-i.i-index c.args.items.now)) c.loop-i.invariant x
    ∙ ap (λ n. min n 2) (count_more (is_block_of x) c.args.items.now c.loop-i.i-index c.i-item.result c.loop-i-test.true c.i-item.is)
