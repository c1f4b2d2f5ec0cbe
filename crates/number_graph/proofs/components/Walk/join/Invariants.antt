use Rattle.std.proofs.Common.{vec_len}
use Rattle.number_graph.proofs.components.Walk.join.Given as goal

abbrev pub decreases-loop-first : goal.decreases-loop-first
decreases-loop-first l = vec_len l.self.firsts
