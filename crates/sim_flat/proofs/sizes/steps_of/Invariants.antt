use Rattle.std.proofs.Common.{length}
use Rattle.sim_flat.specs.Sizes.{AreBelow}
use Rattle.sim_flat.proofs.sizes.steps_of.Given as goal

abbrev pub invariant-loop-kind : goal.invariant-loop-kind
invariant-loop-kind l = AreBelow (length l.kinds) l.edges.items
