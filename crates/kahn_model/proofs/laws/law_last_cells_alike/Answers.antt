use Rattle.kahn_model.proofs.LastCells.{ends_leave_alike}
use Rattle.kahn_model.proofs.laws.law_last_cells_alike.Goals as goal

pub returns : goal.returns
returns c = ends_leave_alike
