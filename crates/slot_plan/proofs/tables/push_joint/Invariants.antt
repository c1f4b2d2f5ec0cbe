use Rattle.std.proofs.Common.{◌≡◌, ◌++◌, map, take}
use Rattle.std.specs.Prelude.{slice_index}
use Rattle.slot_plan.proofs.tables.push_joint.Given as goal

abbrev pub invariant-loop-item : goal.invariant-loop-item
invariant-loop-item l = l.table.items ≡ l.fn.table.items ++ map (slice_index l.widths) (take l.item-index l.choice.items.items)
