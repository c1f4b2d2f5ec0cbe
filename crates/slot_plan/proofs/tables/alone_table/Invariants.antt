use Rattle.std.proofs.Common.{◌≡◌, take}
use Rattle.slot_plan.specs.Merging.{beside_pins, table_of}
use Rattle.slot_plan.proofs.tables.alone_table.Given as goal

abbrev pub invariant-loop-group : goal.invariant-loop-group
invariant-loop-group l = l.table.items ≡ table_of (beside_pins l.graph l.device l.pinned.slots.items) (take l.group-index l.choice.items.items) l.choice.places.items
