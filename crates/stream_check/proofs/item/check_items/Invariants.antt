use Rattle.std.proofs.Common.{◌≡◌, drop, map}
use Rattle.tapa_syntax.specs.Trees as tree
use Rattle.stream_check.specs.Items as items
use Rattle.stream_check.specs.Views.{items_view}
use Rattle.stream_check.proofs.item.check_items.Given as goal

abbrev pub invariant-loop-item : goal.invariant-loop-item
invariant-loop-item l = record {
  faults : items.items_faults items.no_items (map tree.item_of l.file) ≡ items.items_faults (items_view l.names l.tasks.items) (map tree.item_of (drop l.item-index l.file));
  after : items.after_items items.no_items (map tree.item_of l.file) ≡ items.after_items (items_view l.names l.tasks.items) (map tree.item_of (drop l.item-index l.file));
}
