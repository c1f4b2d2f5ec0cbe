use Rattle.slot_split.proofs.Single.{one_halving_plan}
use Rattle.slot_split.proofs.laws.law_one_halving_plan.Goals as goal

pub returns : goal.returns
returns c = one_halving_plan
