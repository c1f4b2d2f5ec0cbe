use Rattle.std.proofs.Common.{◌≡◌, ℕ, [], get_or, drop}
use Rattle.sim_tape.specs.Operators.{cells_of}
use Rattle.cycle_sim.specs.Steps.{stored_all}
use Rattle.cycle_sim.proofs.cells.store_all.Given as goal

abbrev pub invariant-loop-s : goal.invariant-loop-s
invariant-loop-s l = (m : ℕ) → stored_all l.numbers m (get_or (cells_of l.cells) m []) (drop l.s-index l.stores) ≡ stored_all l.numbers m (get_or (cells_of l.initial.cells) m []) l.stores
