use Rattle.std.proofs.Common.{◌≡◌, take}
use Rattle.slot_plan.specs.Merging.{between, table_of}
use Rattle.slot_plan.proofs.tables.joint_table.Given as goal

abbrev pub invariant-loop-group : goal.invariant-loop-group
invariant-loop-group l = l.table.items ≡ table_of (between l.graph) (take l.group-index l.choice.items.items) l.choice.items.items
