use Rattle.slot_plan.proofs.Lowered.{AreRowsPart}
use Rattle.slot_plan.proofs.rows.lower_rows.Given as goal

abbrev pub invariant-loop-other : goal.invariant-loop-other
invariant-loop-other l = AreRowsPart l.tables l.placed l.place l.other l.low l.next
