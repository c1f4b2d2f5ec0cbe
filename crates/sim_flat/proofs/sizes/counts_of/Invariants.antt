use Rattle.std.proofs.Common.{get_or}
use Rattle.number_graph.specs.Graphs.{rows_of}
use Rattle.sim_flat.specs.Sizes.{AreCounts}
use Rattle.sim_flat.proofs.sizes.counts_of.Given as goal

abbrev pub invariant-loop-kind : goal.invariant-loop-kind
invariant-loop-kind l = AreCounts (rows_of l.kinds) (λ k. get_or l.own k 0) l.counts.items
