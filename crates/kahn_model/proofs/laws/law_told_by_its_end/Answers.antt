use Rattle.kahn_model.proofs.ByEnd.{told_by_its_end}
use Rattle.kahn_model.proofs.laws.law_told_by_its_end.Goals as goal

pub returns : goal.returns
returns c = told_by_its_end
