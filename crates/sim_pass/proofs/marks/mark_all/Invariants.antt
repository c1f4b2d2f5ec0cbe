use Rattle.std.proofs.Common.{◌≡◌, ◌<◌, ℕ, true}
use Rattle.sim_pass.specs.Marks.{is_marked, KeepsMarks}
use Rattle.sim_tape.specs.Tape.{number_at}
use Rattle.sim_pass.proofs.marks.mark_all.Given as goal

abbrev pub invariant-loop-block : goal.invariant-loop-block
invariant-loop-block l = record { kept : KeepsMarks l.initial.marks l.marks; marked : (j : ℕ) → j < l.block-index → is_marked l.marks (number_at l.blocks j) ≡ true }
