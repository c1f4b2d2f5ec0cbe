use Rattle.std.proofs.Common.{List, map, subst}
use Rattle.std.specs.List.{flat_map}
use Rattle.std.specs.Option.{option_copied}
use Rattle.vlog_tree.specs.declared.tree.Item.{Item}
use Rattle.vlog_tree.specs.Table.{Name}
use Rattle.vlog_tree.specs.Loops.{direct_edges, item_instances, instances}
use Rattle.vlog_net_graph.specs.Growth.{Adds}
use Rattle.vlog_net_graph.specs.Merged.{is_named, port_pair, joins}
use Rattle.vlog_net_graph.proofs.Growing.{adds_both}
use Rattle.vlog_net_graph.proofs.merged.add_module.Goals as goal

pub returns : goal.returns
returns c =
    let ms = c.args.library.now in
    let m = c.args.m.now in
    let middle = c.add_own.new.g in
    let new = c.add_items.new.g in
    let lines : Adds middle new (flat_map (joins ms c.name.result.now) (instances m)) =
    subst (λ (l : List Item). Adds middle new (flat_map (joins ms c.name.result.now) (flat_map item_instances l))) c.items.ensures.value c.in_ok-add_items.ensures in
    adds_both c.args.g.now middle new (map (port_pair m.name) (direct_edges ms (is_named (option_copied c.args.root)) m)) (flat_map (joins ms m.name) (instances m)) c.in_ok-add_own.ensures
    (subst (λ (n : Name). Adds middle new (flat_map (joins ms n) (instances m))) c.name.ensures lines)
