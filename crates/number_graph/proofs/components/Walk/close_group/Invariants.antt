use Rattle.std.proofs.Common.{vec_len}
use Rattle.number_graph.proofs.components.Walk.close_group.Given as goal

abbrev pub decreases-loop-node : goal.decreases-loop-node
decreases-loop-node l = vec_len l.self.waiting
