use Rattle.kahn_model.proofs.OneMeaning.{one_meaning}
use Rattle.kahn_model.proofs.laws.law_one_meaning.Goals as goal

pub returns : goal.returns
returns c = one_meaning
