use Rattle.slot_split.proofs.Single.{halving_gives_plans}
use Rattle.slot_split.proofs.laws.law_halving_is_a_plan.Goals as goal

pub returns : goal.returns
returns c = halving_gives_plans
