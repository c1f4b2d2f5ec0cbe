use Rattle.std.proofs.Common.{◌≡◌, ◌<◌, ℕ, Some}
use Rattle.std.specs.Prelude.{slice_get}
use Rattle.vlog_design.specs.Environments.{lists_of}
use Rattle.cycle_sim.specs.declared.inputs.Input.{Input}
use Rattle.cycle_sim.specs.Steps.{PairHas, supplied}
use Rattle.cycle_sim.proofs.inputs.are_given.Given as goal

abbrev pub invariant-loop-input : goal.invariant-loop-input
invariant-loop-input l = (i : ℕ) (a : Input) → i < l.input-index → slice_get l.inputs i ≡ Some a → PairHas l.numbers a.pair (supplied (lists_of l.ready) l.cycle a.supply)
