use Rattle.sim_flat.specs.Written.{output_writes}
use Rattle.sim_flat.proofs.Writes.{write_more, write_end}
use Rattle.sim_flat.proofs.tables.drive_all.Goals as goal

pub loop-l-preserved : goal.loop-l-preserved
loop-l-preserved c =
    write_more (output_writes c.args.inner.now c.args.scope.now c.args.child) c.args.connections.now c.loop-l.l-index c.l-item.result _ _ _ c.loop-l-test.true c.l-item.is c.drive.ensures c.loop-l.invariant

pub returns : goal.returns
returns c = write_end (output_writes c.args.inner.now c.args.scope.now c.args.child) c.args.connections.now c.loop-l.l-index _ _ c.loop-l-test.false c.loop-l.invariant
