use Rattle.std.proofs.Common.{map}
use Rattle.vlog_comb_loops.specs.Summaries.{port_pair}
use Rattle.vlog_net_graph.proofs.Growing.{AddsSoFar}
use Rattle.vlog_comb_loops.proofs.through.add_pairs.Given as goal

abbrev pub invariant-loop-pair : goal.invariant-loop-pair
invariant-loop-pair l = AddsSoFar (map (port_pair l.instance)) l.pairs l.pair-index l.fn.g l.g
