use Rattle.plan_report.specs.Lines.{texts, slot_line}
use Rattle.plan_report.proofs.Below.{more_lines}
use Rattle.plan_report.proofs.report.add_slots.Goals as goal

pub loop-slot-preserved : goal.loop-slot-preserved
loop-slot-preserved c =
    more_lines (slot_line c.args.cols c.args.used.now) (texts c.args.lines.now.items) c.loop-slot.lines.items c.push.new.self.items c.loop-slot.slot c.in_ok-line.line c.in_ok-push.ensures.items c.loop-slot.invariant c.in_ok-line.ensures
