use Rattle.std.proofs.Common.{◌≡◌}
use Rattle.hw_build.specs.Elements.{with_all}
use Rattle.hw_build.specs.Trees.{tree_nodes}
use Rattle.hw_build.proofs.trees.add_nodes.Given as goal

abbrev pub invariant-loop-node : goal.invariant-loop-node
invariant-loop-node l = l.draft ≡ with_all l.initial.draft (tree_nodes l.width l.front l.leaves l.node)
