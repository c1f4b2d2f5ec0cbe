use Rattle.sim_flat.specs.Edges.{instance_edges}
use Rattle.sim_flat.proofs.Edging.{below_more}
use Rattle.sim_flat.proofs.order.add_instances.Goals as goal

pub loop-k-preserved : goal.loop-k-preserved
loop-k-preserved c = below_more (instance_edges c.args.modules.now c.args.flat.now) c.loop-k.k _ _ _ c.loop-k.invariant c.in_ok-add_instance.ensures
