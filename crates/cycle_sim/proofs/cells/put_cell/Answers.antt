use Rattle.cycle_sim.proofs.Writing.{cell_put}
use Rattle.cycle_sim.proofs.cells.put_cell.Goals as goal

pub returns-then-memory-cells : goal.returns-then-memory-cells
returns-then-memory-cells c = cell_put c.args.cells.now c.args.memory c.args.at c.args.n c.index-cells-memory.result c.set_cell.new.cells c.if-memory-cells.true c.set_cell.ensures
