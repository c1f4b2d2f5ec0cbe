use Rattle.std.proofs.Common.{List, map}
use Rattle.std.specs.List.{flat_map}
use Rattle.vlog_tree.specs.declared.tree.Item.{Item}
use Rattle.vlog_tree.specs.Table.{Name}
use Rattle.vlog_tree.specs.V6.{item_children}
use Rattle.vlog_net_graph.proofs.Growing.{AddsSoFar}
use Rattle.vlog_net_graph.proofs.containment.add_children.Given as goal

abbrev pub invariant-loop-item : goal.invariant-loop-item
invariant-loop-item l = AddsSoFar (λ (items : List Item). map (λ (k : Name). (l.m.name, k)) (flat_map item_children items)) l.item-items l.item-index l.fn.g l.g
