use Rattle.hw_network_laws.proofs.network.Cells.{hold_cells}
use Rattle.hw_network_laws.proofs.laws.network.law_memories_hold_cells.Goals as goal

pub returns : goal.returns
returns c = hold_cells
