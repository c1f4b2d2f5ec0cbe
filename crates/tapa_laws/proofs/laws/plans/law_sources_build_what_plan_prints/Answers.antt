use Rattle.tapa_laws.proofs.plans.OnePlan.{source_builds}
use Rattle.tapa_laws.proofs.laws.plans.law_sources_build_what_plan_prints.Goals as goal

pub returns : goal.returns
returns c = source_builds
