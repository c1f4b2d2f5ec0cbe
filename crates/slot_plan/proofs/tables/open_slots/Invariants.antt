use Rattle.slot_plan.specs.Merging.{AreThose, is_open}
use Rattle.slot_plan.proofs.tables.open_slots.Given as goal

abbrev pub invariant-loop-slot : goal.invariant-loop-slot
invariant-loop-slot l = AreThose l.slot (is_open l.device) l.slots.items
