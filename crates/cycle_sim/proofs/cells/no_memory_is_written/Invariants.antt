use Rattle.std.proofs.Common.{◌≡◌, ◌<◌, ℕ, false, Some}
use Rattle.std.specs.Prelude.{slice_get}
use Rattle.cycle_sim.specs.declared.cells.Outside.{Outside}
use Rattle.cycle_sim.specs.Steps.{is_written}
use Rattle.cycle_sim.proofs.cells.no_memory_is_written.Given as goal

abbrev pub invariant-loop-o : goal.invariant-loop-o
invariant-loop-o l = (j : ℕ) (o : Outside) → j < l.o-index → slice_get l.outside j ≡ Some o → is_written l.numbers o ≡ false
