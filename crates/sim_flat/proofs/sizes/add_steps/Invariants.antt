use Rattle.sim_flat.specs.Sizes.{AreBelow}
use Rattle.sim_flat.proofs.sizes.add_steps.Given as goal

abbrev pub invariant-loop-other : goal.invariant-loop-other
invariant-loop-other l = AreBelow l.count l.edges.items
