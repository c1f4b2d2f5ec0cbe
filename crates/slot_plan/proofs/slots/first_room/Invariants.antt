use Rattle.std.proofs.Common.{ℕ, ◌<◌}
use Rattle.slot_plan.specs.Placing.{HasSpace}
use Rattle.slot_plan.proofs.slots.first_room.Given as goal

abbrev pub invariant-loop-slot : goal.invariant-loop-slot
invariant-loop-slot l = (t : ℕ) → t < l.slot → HasSpace l.device l.needs l.used l.group t → ⊥
