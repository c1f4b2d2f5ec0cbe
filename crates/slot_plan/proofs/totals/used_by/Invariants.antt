use Rattle.slot_plan.proofs.UsedSums.{AreUsedBelow}
use Rattle.slot_plan.proofs.totals.used_by.Given as goal

abbrev pub invariant-loop-group : goal.invariant-loop-group
invariant-loop-group l = AreUsedBelow l.device l.needs l.slots l.group l.used.items
