use Rattle.std.proofs.Common.{map}
use Rattle.vlog_tree.specs.declared.tree.Connection.{Connection}
use Rattle.vlog_tree.specs.Loops.{connection_edge}
use Rattle.vlog_net_graph.specs.Merged.{under}
use Rattle.vlog_net_graph.proofs.Growing.{AddsSoFar}
use Rattle.vlog_net_graph.proofs.lines.add_connections.Given as goal

abbrev pub invariant-loop-l : goal.invariant-loop-l
invariant-loop-l l = AddsSoFar (map (λ (k : Connection). under l.front (connection_edge l.ports l.instance k))) l.connections l.l-index l.fn.g l.g
