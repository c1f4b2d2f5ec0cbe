use Rattle.std.proofs.Common.{◌≡◌, take}
use Rattle.slot_plan.specs.Merging.{table_of}
use Rattle.slot_plan.specs.Plan.{distance}
use Rattle.slot_plan.proofs.tables.distance_table.Given as goal

abbrev pub invariant-loop-slot : goal.invariant-loop-slot
invariant-loop-slot l = l.table.items ≡ table_of (distance l.device) (take l.slot-index l.choice.places.items) l.choice.places.items
