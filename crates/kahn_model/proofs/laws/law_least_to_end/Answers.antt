use Rattle.kahn_model.proofs.Least.{least_to_end}
use Rattle.kahn_model.proofs.laws.law_least_to_end.Goals as goal

pub returns : goal.returns
returns c = least_to_end
