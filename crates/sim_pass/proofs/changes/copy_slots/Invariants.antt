use Rattle.std.proofs.Common.{◌≡◌, ◌<◌, ℕ}
use Rattle.sim_tape.specs.Tape.{number_at}
use Rattle.sim_pass.proofs.changes.copy_slots.Given as goal

abbrev pub invariant-loop-slot : goal.invariant-loop-slot
invariant-loop-slot l = (i : ℕ) → i < l.slot-index → number_at l.numbers (number_at l.listed i) ≡ number_at l.given (number_at l.listed i)
