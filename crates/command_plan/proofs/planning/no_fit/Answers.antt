use Rattle.std.proofs.Common.{ℕ, Option, subst}
use Rattle.slot_plan.specs.declared.floorplan.PlanFault.TheVariants.{NoFit}
use Rattle.command_plan.specs.Planned.{IsFaultOf}
use Rattle.command_plan.proofs.planning.no_fit.Goals as goal

pub returns-in-None : goal.returns-in-None
returns-in-None c = λ device mode h. subst (λ (o : Option ℕ). IsFaultOf c.args.graph.now device mode (NoFit o)) c.in-None.is h

pub returns-in-Ok : goal.returns-in-Ok
returns-in-Ok c = λ device mode h. (c.in-Some.number, c.in-Ok.ensures, subst (λ (o : Option ℕ). IsFaultOf c.args.graph.now device mode (NoFit o)) c.in-Some.is h)
