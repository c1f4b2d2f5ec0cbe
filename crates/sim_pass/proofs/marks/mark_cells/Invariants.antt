use Rattle.std.proofs.Common.{◌≡◌, ◌<◌, ℕ, true}
use Rattle.sim_pass.specs.Marks.{is_marked}
use Rattle.sim_pass.specs.Runs.{run_at}
use Rattle.sim_tape.specs.declared.gates.Rule.TheVariants.{Of}
use Rattle.sim_tape.specs.declared.gates.Operator.TheVariants.{Cell}
use Rattle.sim_pass.proofs.marks.mark_cells.Given as goal

abbrev pub invariant-loop-k : goal.invariant-loop-k
invariant-loop-k l = (j : ℕ) → j < l.k → (run_at l.blocks j).rule ≡ Of Cell → is_marked l.marks j ≡ true
