use Rattle.vlog_tree.specs.V2.{item_uses}
use Rattle.vlog_rules.proofs.names.item.Goals as goal

pub returns-in-Wire : goal.returns-in-Wire
unfolding item_uses
returns-in-Wire c = rw c.in-Wire.is c.inner.ensures

pub returns-in-Reg : goal.returns-in-Reg
unfolding item_uses
returns-in-Reg c = rw c.in-Reg.is c.inner-in-Reg.ensures

pub returns-in-Memory : goal.returns-in-Memory
unfolding item_uses
returns-in-Memory c = rw c.in-Memory.is c.inner-in-Memory.ensures
