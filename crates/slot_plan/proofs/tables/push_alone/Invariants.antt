use Rattle.std.proofs.Common.{◌≡◌, ◌++◌, map, take}
use Rattle.slot_plan.specs.Merging.{beside_pins}
use Rattle.slot_plan.proofs.tables.push_alone.Given as goal

abbrev pub invariant-loop-slot : goal.invariant-loop-slot
invariant-loop-slot l = l.table.items ≡ l.fn.table.items ++ map (beside_pins l.graph l.device l.pinned.slots.items l.group) (take l.slot-index l.choice.places.items)
