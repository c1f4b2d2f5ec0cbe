use Rattle.std.proofs.Common.{◌≡◌, ◌<◌, ◌≤◌, ℕ, [], Some, get_or}
use Rattle.std.specs.Prelude.{slice_get}
use Rattle.sim_tape.specs.Operators.{cells_of}
use Rattle.cycle_sim.specs.declared.cells.Outside.{Outside}
use Rattle.cycle_sim.specs.Steps.{outside_list}
use Rattle.cycle_sim.proofs.cells.ask_all.Given as goal

abbrev pub invariant-loop-i : goal.invariant-loop-i
invariant-loop-i l =
    ((j : ℕ) (o : Outside) → j < l.i → slice_get l.outside j ≡ Some o → get_or (cells_of l.cells) j [] ≡ outside_list l.numbers o (get_or (cells_of l.initial.cells) j []))
    × ((m : ℕ) → l.i ≤ m → get_or (cells_of l.cells) m [] ≡ get_or (cells_of l.initial.cells) m [])
