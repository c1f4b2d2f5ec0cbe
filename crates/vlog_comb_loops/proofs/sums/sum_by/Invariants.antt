use Rattle.std.proofs.Common.{◌≡◌, [], length, map, take}
use Rattle.tapa_base.specs.Lists.{Has}
use Rattle.vlog_tree.specs.Table.{declaration_name}
use Rattle.vlog_tree.specs.Loops.{Edges}
use Rattle.vlog_net_graph.specs.Names.{IsGraphOf}
use Rattle.vlog_comb_loops.specs.Growth.{Gathers}
use Rattle.vlog_comb_loops.specs.Summaries.{IsPair}
use Rattle.vlog_comb_loops.proofs.sums.sum_by.Given as goal

abbrev pub invariant-loop-d : goal.invariant-loop-d
invariant-loop-d l = record {
  room : l.searches ≡ length l.graph.graph;
  gathers : (edges : Edges) → IsGraphOf edges l.graph → Gathers (IsPair edges l.ports) (λ a b. Has (map declaration_name (take l.d-index l.d-items)) a) [] l.pairs.items;
}
