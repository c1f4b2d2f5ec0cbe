use Rattle.std.proofs.Common.{◌≡◌, map, take}
use Rattle.task_graph.specs.Estimate.{estimate}
use Rattle.task_graph.proofs.program_graph.leaf_uses.Given as goal

abbrev pub invariant-loop-leaf : goal.invariant-loop-leaf
invariant-loop-leaf l = l.uses.items ≡ map estimate (take l.leaf-index l.bodies)
