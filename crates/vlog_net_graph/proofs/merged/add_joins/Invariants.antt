use Rattle.std.proofs.Common.{map}
use Rattle.vlog_net_graph.specs.Merged.{join}
use Rattle.vlog_net_graph.proofs.Growing.{AddsSoFar}
use Rattle.vlog_net_graph.proofs.merged.add_joins.Given as goal

abbrev pub invariant-loop-d : goal.invariant-loop-d
invariant-loop-d l = AddsSoFar (map (join l.ports l.m (l.k, l.instance))) l.names l.d-index l.fn.g l.g
