use Rattle.vlog_rules.proofs.drivers.count_blocks_of.Goals as goal

pub returns-in-Always : goal.returns-in-Always
returns-in-Always c = rw c.in-Always.is (rw c.steps.ensures at c.count_block.ensures)
