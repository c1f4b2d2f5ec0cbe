use Rattle.std.proofs.Common.{List, map, refl, subst}
use Rattle.std.specs.List.{flat_map}
use Rattle.vlog_tree.specs.declared.tree.Item.{Item}
use Rattle.vlog_tree.specs.Table.{Name}
use Rattle.vlog_tree.specs.V6.{item_children, module_children}
use Rattle.vlog_tree.specs.Loops.{own_containment}
use Rattle.vlog_net_graph.specs.Growth.{Adds}
use Rattle.vlog_net_graph.proofs.Growing.{so_far_step, so_far_end}
use Rattle.tapa_base.proofs.Got.{map_append as map-append}
use Rattle.vlog_net_graph.proofs.containment.add_children.Goals as goal

pub loop-item-preserved : goal.loop-item-preserved
loop-item-preserved c =
    let pair : Name → Name × Name = λ k. (c.args.m.now.name, k) in
    let item = c.item-item.result in
    so_far_step (λ (items : List Item). map pair (flat_map item_children items)) c.items-item-items.result.now c.loop-item.item-index item c.args.g.now c.loop-item.g c.add_child.new.g
    (map pair (item_children item)) (λ rest. map-append pair (item_children item) (flat_map item_children rest)) c.loop-item-test.true c.item-item.is c.loop-item.invariant
    (subst (λ (n : Name). Adds c.loop-item.g c.add_child.new.g (map (λ (k : Name). (n, k)) (item_children item))) c.name.ensures c.in_ok-add_child.ensures)

pub returns : goal.returns
unfolding own_containment module_children
returns c =
    let pair : Name → Name × Name = λ k. (c.args.m.now.name, k) in
    subst (λ (items : List Item). Adds c.args.g.now c.loop-item.g (map pair (flat_map item_children items))) c.items-item-items.ensures.value
    (so_far_end (λ (items : List Item). map pair (flat_map item_children items)) c.items-item-items.result.now c.loop-item.item-index c.args.g.now c.loop-item.g refl c.loop-item-test.false c.loop-item.invariant)
