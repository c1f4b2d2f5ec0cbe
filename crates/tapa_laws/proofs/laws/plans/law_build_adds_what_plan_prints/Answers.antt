use Rattle.tapa_laws.proofs.plans.OnePlanOf.{build_adds}
use Rattle.tapa_laws.proofs.laws.plans.law_build_adds_what_plan_prints.Goals as goal

pub returns : goal.returns
returns c = build_adds
