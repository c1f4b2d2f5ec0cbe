use Rattle.std.proofs.Common.{◌≡◌, ◌<◌, ℕ, false}
use Rattle.sim_pass.specs.Marks.{AllFollowed, KeepsMarks, KeepsUnlisted}
use Rattle.sim_tape.specs.Tape.{number_at}
use Rattle.sim_pass.proofs.changes.give_slots.Given as goal

abbrev pub invariant-loop-slot : goal.invariant-loop-slot
invariant-loop-slot l = record {
  kept : KeepsMarks l.initial.marks l.marks;
  given : (i : ℕ) → i < l.slot-index → number_at l.numbers (number_at l.listed i) ≡ number_at l.given (number_at l.listed i);
  others : KeepsUnlisted l.listed l.initial.numbers l.numbers;
  followed : AllFollowed l.readers l.marks l.initial.numbers l.numbers;
  still : l.is_changed ≡ false → l.numbers ≡ l.initial.numbers;
}
