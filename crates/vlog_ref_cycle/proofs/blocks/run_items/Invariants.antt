use Rattle.std.proofs.Common.{◌≡◌, drop}
use Rattle.std.specs.List.{flat_map}
use Rattle.vlog_tree.specs.Cycle.{Cycle, Sizes, run_items}
use Rattle.vlog_ref_cycle.specs.Next.{item_nets, ReadsAre, Fits, Shows, IsAlike}
use Rattle.vlog_ref_cycle.proofs.blocks.run_items.Given as goal

abbrev pub invariant-loop-item : goal.invariant-loop-item
invariant-loop-item l = record {
  alike : IsAlike l.fn.after l.after;
  value : (s : Sizes) (old : Cycle) (next : Cycle) → ReadsAre l.nets old (flat_map item_nets l.items) → Fits s l.fn.after → Shows l.fn.after next
      → (now : Cycle) × Shows l.after now × (run_items s old l.items next ≡ run_items s old (drop l.item-index l.items) now);
}
