use Rattle.vlog_tree.specs.Loops.{atom_nets}
use Rattle.sim_flat.specs.Edges.{net_edge}
use Rattle.sim_flat.proofs.Edging.{names_more}
use Rattle.sim_flat.proofs.edges.add_atoms.Goals as goal

pub loop-a-preserved : goal.loop-a-preserved
loop-a-preserved c =
    names_more (net_edge c.args.base c.args.scope.now c.args.from.now) atom_nets c.args.atoms.now c.loop-a.a-index c.a-item.result _ _ _ c.loop-a-test.true c.a-item.is c.in_ok-add_atom.ensures c.loop-a.invariant
