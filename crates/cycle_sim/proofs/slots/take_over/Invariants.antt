use Rattle.std.proofs.Common.{◌≡◌, ◌<◌, ℕ, Some}
use Rattle.std.specs.Prelude.{slice_get}
use Rattle.sim_tape.specs.Tape.{number_at}
use Rattle.sim_design.specs.declared.drafts.Commit.{Commit}
use Rattle.cycle_sim.proofs.slots.take_over.Given as goal

abbrev pub invariant-loop-commit : goal.invariant-loop-commit
invariant-loop-commit l = (j : ℕ) (a : Commit) → j < l.commit-index → slice_get l.commits j ≡ Some a → number_at l.given a.slot ≡ number_at l.numbers a.next
