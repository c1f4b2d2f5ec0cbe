use Rattle.sim_flat.specs.Written.{join_writes}
use Rattle.sim_flat.proofs.Writes.{write_more, write_end}
use Rattle.sim_flat.proofs.tables.joined_of.Goals as goal

pub loop-l-preserved : goal.loop-l-preserved
loop-l-preserved c =
    write_more (join_writes c.args.inner.now c.args.scope.now) c.args.connections.now c.loop-l.l-index c.l-item.result _ _ _ c.loop-l-test.true c.l-item.is c.join.ensures c.loop-l.invariant

pub returns : goal.returns
returns c = write_end (join_writes c.args.inner.now c.args.scope.now) c.args.connections.now c.loop-l.l-index _ _ c.loop-l-test.false c.loop-l.invariant
