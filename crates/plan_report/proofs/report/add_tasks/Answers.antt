use Rattle.plan_report.specs.Lines.{texts, task_line}
use Rattle.plan_report.proofs.Below.{more_lines}
use Rattle.plan_report.proofs.report.add_tasks.Goals as goal

pub loop-instance-preserved : goal.loop-instance-preserved
loop-instance-preserved c =
    more_lines (task_line c.args.graph.now c.args.cols c.args.slots.now) (texts c.args.lines.now.items) c.loop-instance.lines.items c.push.new.self.items c.loop-instance.instance c.in_ok-line.line c.in_ok-push.ensures.items c.loop-instance.invariant c.in_ok-line.ensures
