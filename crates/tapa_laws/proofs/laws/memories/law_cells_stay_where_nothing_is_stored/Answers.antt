use Rattle.tapa_laws.proofs.memories.Cells.{cells_stay}
use Rattle.tapa_laws.proofs.laws.memories.law_cells_stay_where_nothing_is_stored.Goals as goal

pub returns : goal.returns
returns c = cells_stay
