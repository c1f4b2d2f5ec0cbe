use Rattle.std.proofs.Common.{subst}
use Rattle.slot_plan.specs.declared.floorplan.PlanFault.{PlanFault}
use Rattle.command_plan.specs.Planned.{IsFaultOf}
use Rattle.command_plan.proofs.planning.refusal_by.Goals as goal

pub returns-in-TooMany : goal.returns-in-TooMany
returns-in-TooMany c = λ device mode h. subst (λ (f : PlanFault). IsFaultOf c.args.graph.now device mode f) c.in-TooMany.is h

pub returns-in-NoFit : goal.returns-in-NoFit
returns-in-NoFit c = λ device mode h. c.no_fit.ensures device mode (subst (λ (f : PlanFault). IsFaultOf c.args.graph.now device mode f) c.in-NoFit.is h)
