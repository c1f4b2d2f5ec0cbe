use Rattle.std.proofs.Common.{List, map, refl}
use Rattle.std.specs.List.{flat_map}
use Rattle.vlog_tree.specs.declared.tree.Item.{Item}
use Rattle.vlog_tree.specs.Loops.{line_edges}
use Rattle.vlog_net_graph.specs.Merged.{under}
use Rattle.vlog_net_graph.proofs.Growing.{so_far_start, so_far_step, so_far_end}
use Rattle.tapa_base.proofs.Got.{map_append as map-append}
use Rattle.vlog_net_graph.proofs.lines.add_lines.Goals as goal

pub loop-item-init : goal.loop-item-init
loop-item-init c = so_far_start (λ (xs : List Item). map (under c.args.front.now) (flat_map (line_edges c.args.library.now) xs)) c.args.items.now c.args.g.now

pub loop-item-preserved : goal.loop-item-preserved
loop-item-preserved c =
    so_far_step (λ (xs : List Item). map (under c.args.front.now) (flat_map (line_edges c.args.library.now) xs)) c.args.items.now c.loop-item.item-index c.item-item.result c.args.g.now c.loop-item.g c.add_line.new.g (map (under c.args.front.now) (line_edges c.args.library.now c.item-item.result)) (λ rest. map-append (under c.args.front.now) (line_edges c.args.library.now c.item-item.result) (flat_map (line_edges c.args.library.now) rest))
    c.loop-item-test.true c.item-item.is c.loop-item.invariant c.in_ok-add_line.ensures

pub returns : goal.returns
returns c = so_far_end (λ (xs : List Item). map (under c.args.front.now) (flat_map (line_edges c.args.library.now) xs)) c.args.items.now c.loop-item.item-index c.args.g.now c.loop-item.g refl c.loop-item-test.false c.loop-item.invariant
