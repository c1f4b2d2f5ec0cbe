use Rattle.std.proofs.Common.{◌<◌, ◌≤◌, ℕ, List}
use Rattle.sim_pass.specs.Marks.{IsAside, IsFollowed, KeepsMarks}
use Rattle.sim_pass.specs.Rows.{slots_in}
use Rattle.sim_tape.specs.Tape.{number_at}
use Rattle.sim_pass.proofs.changes.mark_changed.Given as goal

abbrev pub invariant-loop-i : goal.invariant-loop-i
invariant-loop-i l = record {
  kept : KeepsMarks l.initial.marks l.marks;
  followed : (old : List ℕ) → IsAside (slots_in l.rows) l.from l.to l.aside old → (j : ℕ) → l.from ≤ j → j < l.i → IsFollowed l.readers l.marks old l.numbers (number_at (slots_in l.rows) j);
}
