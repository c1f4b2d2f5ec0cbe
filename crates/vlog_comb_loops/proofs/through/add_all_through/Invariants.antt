use Rattle.std.proofs.Common.{List}
use Rattle.std.specs.List.{flat_map}
use Rattle.vlog_tree.specs.declared.tree.Item.{Item}
use Rattle.vlog_tree.specs.Loops.{item_instances}
use Rattle.vlog_comb_loops.specs.Summaries.{through_edges}
use Rattle.vlog_net_graph.proofs.Growing.{AddsSoFar}
use Rattle.vlog_comb_loops.proofs.through.add_all_through.Given as goal

abbrev pub invariant-loop-item : goal.invariant-loop-item
invariant-loop-item l = AddsSoFar (λ (items : List Item). flat_map (through_edges l.library l.sums) (flat_map item_instances items)) l.items l.item-index l.fn.g l.g
