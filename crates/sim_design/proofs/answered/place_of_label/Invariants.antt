use Rattle.std.proofs.Common.{ℕ, ◌<◌}
use Rattle.sim_design.specs.Lines.{IsLabelAt}
use Rattle.sim_design.proofs.answered.place_of_label.Given as goal

abbrev pub invariant-loop-place : goal.invariant-loop-place
invariant-loop-place l = (i : ℕ) → i < l.place → IsLabelAt l.labels i l.label → ⊥
