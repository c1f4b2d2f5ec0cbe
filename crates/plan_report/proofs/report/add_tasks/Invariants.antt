use Rattle.std.proofs.Common.{◌≡◌, ◌++◌}
use Rattle.plan_report.specs.Lines.{texts, lines_below, task_line}
use Rattle.plan_report.proofs.report.add_tasks.Given as goal

abbrev pub invariant-loop-instance : goal.invariant-loop-instance
invariant-loop-instance l = texts l.lines.items ≡ texts l.fn.lines.items ++ lines_below l.instance (task_line l.graph l.cols l.slots)
