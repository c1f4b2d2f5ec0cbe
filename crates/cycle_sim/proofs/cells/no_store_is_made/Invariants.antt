use Rattle.std.proofs.Common.{◌≡◌, ◌<◌, ℕ, false, Some}
use Rattle.std.specs.Prelude.{slice_get}
use Rattle.sim_gates.specs.declared.writes.Store.{Store}
use Rattle.cycle_sim.specs.Steps.{is_made}
use Rattle.cycle_sim.proofs.cells.no_store_is_made.Given as goal

abbrev pub invariant-loop-store : goal.invariant-loop-store
invariant-loop-store l = (j : ℕ) (t : Store) → j < l.store-index → slice_get l.stores j ≡ Some t → is_made l.numbers t ≡ false
