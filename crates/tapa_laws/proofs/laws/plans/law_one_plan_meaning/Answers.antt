use Rattle.tapa_laws.proofs.plans.OnePlan.{one_meaning, one_source_balance, one_source_plan}
use Rattle.tapa_laws.proofs.laws.plans.law_one_plan_meaning.Goals as goal

pub returns : goal.returns
returns c = record { one = one_meaning; plan = one_source_plan; balance = one_source_balance }
