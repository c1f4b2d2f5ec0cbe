use Rattle.tapa_laws.proofs.plans.OnePlanOf.{plans_are_one, refusals_are_one, planned_or_refused}
use Rattle.tapa_laws.proofs.laws.plans.law_graphs_have_one_plan.Goals as goal

pub returns : goal.returns
returns c = record { plan = plans_are_one; refusal = refusals_are_one; either = planned_or_refused }
