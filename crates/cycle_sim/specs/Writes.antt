-- What a cycle writes nothing into.
use Rattle.std.specs.Prelude.{◌≡◌, ℕ, false, List, Some, slice_get}
use Rattle.sim_gates.specs.declared.writes.Store.{Store}
use Rattle.cycle_sim.specs.declared.cells.Outside.{Outside}
use Rattle.cycle_sim.specs.Steps.{is_made, is_written}

-- no store is made
abbrev pub AreUnmade : List ℕ → List Store → Type 0
AreUnmade ns stores = (i : ℕ) (t : Store) → slice_get stores i ≡ Some t → is_made ns t ≡ false

-- no memory around the design is written
abbrev pub AreUnwritten : List ℕ → List Outside → Type 0
AreUnwritten ns outside = (i : ℕ) (o : Outside) → slice_get outside i ≡ Some o → is_written ns o ≡ false
