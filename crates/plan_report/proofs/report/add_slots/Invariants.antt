use Rattle.std.proofs.Common.{◌≡◌, ◌++◌}
use Rattle.plan_report.specs.Lines.{texts, lines_below, slot_line}
use Rattle.plan_report.proofs.report.add_slots.Given as goal

abbrev pub invariant-loop-slot : goal.invariant-loop-slot
invariant-loop-slot l = texts l.lines.items ≡ texts l.fn.lines.items ++ lines_below l.slot (slot_line l.cols l.used)
