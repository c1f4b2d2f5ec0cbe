use Rattle.slot_plan.proofs.Lowered.{IsRowPart}
use Rattle.slot_plan.proofs.rows.lower_row.Given as goal

abbrev pub invariant-loop-y : goal.invariant-loop-y
invariant-loop-y l = IsRowPart l.tables l.rows l.fn.next l.placed l.place l.item l.y l.least l.next
