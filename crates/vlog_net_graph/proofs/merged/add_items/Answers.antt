use Rattle.std.proofs.Common.{List, refl}
use Rattle.std.specs.List.{flat_map}
use Rattle.vlog_tree.specs.declared.tree.Item.{Item}
use Rattle.vlog_tree.specs.Loops.{item_instances}
use Rattle.vlog_net_graph.specs.Merged.{joins}
use Rattle.vlog_net_graph.proofs.Growing.{so_far_start, so_far_step, so_far_end}
use Rattle.std.proofs.lemmas.Grind.{flat_map-append}
use Rattle.vlog_net_graph.proofs.merged.add_items.Goals as goal

pub loop-item-init : goal.loop-item-init
loop-item-init c = so_far_start (λ (items : List Item). flat_map (joins c.args.library.now c.args.m.now) (flat_map item_instances items)) c.args.items.now c.args.g.now

pub loop-item-preserved : goal.loop-item-preserved
loop-item-preserved c =
    let item = c.item-item.result in
    so_far_step (λ (items : List Item). flat_map (joins c.args.library.now c.args.m.now) (flat_map item_instances items)) c.args.items.now c.loop-item.item-index item c.args.g.now c.loop-item.g c.add_item.new.g
    (flat_map (joins c.args.library.now c.args.m.now) (item_instances item)) (λ rest. flat_map-append (joins c.args.library.now c.args.m.now) (item_instances item) (flat_map item_instances rest))
    c.loop-item-test.true c.item-item.is c.loop-item.invariant c.in_ok-add_item.ensures

pub returns : goal.returns
returns c =
    so_far_end (λ (items : List Item). flat_map (joins c.args.library.now c.args.m.now) (flat_map item_instances items)) c.args.items.now c.loop-item.item-index c.args.g.now c.loop-item.g refl c.loop-item-test.false c.loop-item.invariant
