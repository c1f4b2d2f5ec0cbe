use Rattle.std.proofs.Common.{◌≡◌, ◌+◌, ◌-◌, ◌≤◌, length, drop}
use Rattle.vcd_text.specs.Along.{common}
use Rattle.vcd_text.proofs.along.along.Given as goal

abbrev pub invariant-loop-at : goal.invariant-loop-at
invariant-loop-at l = record { word : l.at ≤ length l.word; text : l.at ≤ length l.text; along : l.at + common (drop l.at l.word) (drop l.at l.text) ≡ common l.word l.text }

abbrev pub decreases-loop-at : goal.decreases-loop-at
decreases-loop-at l = length l.word - l.at
