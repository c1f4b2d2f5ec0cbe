use Rattle.std.proofs.Common.{ℕ, List, sym, subst}
use Rattle.latency_balance.specs.Moves.{AreLatencies}
use Rattle.plan_report.specs.Borders.{AreBorderLatencies}
use Rattle.command_plan.proofs.plan_text.lines_of.Goals as goal

pub lines_with-requires-clause-borders : goal.lines_with-requires-clause-borders
lines_with-requires-clause-borders c = subst (λ (l : List ℕ). AreBorderLatencies c.args.graph.now c.args.device.now c.args.plan.now.slot.items l) (sym c.deref.ensures.value) c.in_ok-border.ensures.value

pub lines_with-requires-clause-low : goal.lines_with-requires-clause-low
lines_with-requires-clause-low c = subst (λ (l : List ℕ). AreLatencies c.args.graph.now l) (sym c.deref.ensures.value) c.in_ok-border.ensures.low
