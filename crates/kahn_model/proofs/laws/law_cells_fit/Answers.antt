use Rattle.kahn_model.proofs.FitsCells.{cells_fit}
use Rattle.kahn_model.proofs.laws.law_cells_fit.Goals as goal

pub returns : goal.returns
returns c = cells_fit
