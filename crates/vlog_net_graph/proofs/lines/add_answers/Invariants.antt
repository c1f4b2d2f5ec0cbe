use Rattle.std.proofs.Common.{List, map}
use Rattle.std.specs.List.{flat_map}
use Rattle.vlog_tree.specs.declared.table.Declaration.{Declaration}
use Rattle.vlog_tree.specs.Loops.{answer_edges}
use Rattle.vlog_net_graph.specs.Merged.{under}
use Rattle.vlog_net_graph.proofs.Growing.{AddsSoFar}
use Rattle.vlog_net_graph.proofs.lines.add_answers.Given as goal

abbrev pub invariant-loop-d : goal.invariant-loop-d
invariant-loop-d l = AddsSoFar (λ (xs : List Declaration). map (under l.front) (flat_map (answer_edges l.ports) xs)) l.names l.d-index l.fn.g l.g
