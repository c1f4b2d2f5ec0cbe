use Rattle.std.proofs.Common.{◌≡◌, ◌<◌, ℕ, [], get_or, length}
use Rattle.vlog_design.specs.Environments.{lists_of}
use Rattle.sim_tape.specs.Operators.{cells_of}
use Rattle.cycle_sim.proofs.first.outside_cells.Given as goal

abbrev pub invariant-loop-i : goal.invariant-loop-i
invariant-loop-i l = (length l.all.items ≡ l.i) × ((j : ℕ) → j < l.i → get_or (cells_of l.all.items) j [] ≡ get_or (lists_of l.memories) j [])
