use Rattle.std.proofs.Common.{List, refl}
use Rattle.std.specs.List.{flat_map}
use Rattle.vlog_tree.specs.declared.tree.Item.{Item}
use Rattle.vlog_tree.specs.Loops.{item_instances}
use Rattle.vlog_comb_loops.specs.Summaries.{through_edges}
use Rattle.vlog_net_graph.proofs.Growing.{so_far_start, so_far_step, so_far_end}
use Rattle.std.proofs.lemmas.Grind.{flat_map-append}
use Rattle.vlog_comb_loops.proofs.through.add_all_through.Goals as goal

pub loop-item-init : goal.loop-item-init
loop-item-init c = so_far_start (λ (items : List Item). flat_map (through_edges c.args.library.now c.args.sums.now) (flat_map item_instances items)) c.args.items.now c.args.g.now

pub loop-item-preserved : goal.loop-item-preserved
loop-item-preserved c =
    so_far_step (λ (items : List Item). flat_map (through_edges c.args.library.now c.args.sums.now) (flat_map item_instances items)) c.args.items.now c.loop-item.item-index c.item-item.result c.args.g.now c.loop-item.g c.add_through.new.g (flat_map (through_edges c.args.library.now c.args.sums.now) (item_instances c.item-item.result)) (λ rest. flat_map-append (through_edges c.args.library.now c.args.sums.now) (item_instances c.item-item.result) (flat_map item_instances rest))
    c.loop-item-test.true c.item-item.is c.loop-item.invariant c.in_ok-add_through.ensures

pub returns : goal.returns
returns c = so_far_end (λ (items : List Item). flat_map (through_edges c.args.library.now c.args.sums.now) (flat_map item_instances items)) c.args.items.now c.loop-item.item-index c.args.g.now c.loop-item.g refl c.loop-item-test.false c.loop-item.invariant
