use Rattle.std.proofs.Common.{◌≡◌, ◌++◌, drop}
use Rattle.std.specs.List.{flat_map}
use Rattle.vlog_tree.specs.Environment.{item_stream}
use Rattle.vlog_design.proofs.shape.push_items.Given as goal

abbrev pub invariant-loop-item : goal.invariant-loop-item
invariant-loop-item l = l.out.items ++ flat_map (item_stream l.scope) (drop l.item-index l.items) ≡ l.fn.out.items ++ flat_map (item_stream l.scope) l.items
