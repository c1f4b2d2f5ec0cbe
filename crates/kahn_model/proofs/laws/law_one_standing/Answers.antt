use Rattle.kahn_model.proofs.Standing.{stand_one_way}
use Rattle.kahn_model.proofs.laws.law_one_standing.Goals as goal

pub returns : goal.returns
returns c = stand_one_way
