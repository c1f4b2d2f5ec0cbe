use Rattle.std.proofs.Common.{◌≡◌, ◌<◌, ℕ, Some}
use Rattle.std.specs.Prelude.{slice_get}
use Rattle.vlog_tree.specs.Form.{ModuleTree}
use Rattle.vlog_comb_loops.specs.Questions.{AsksLines}
use Rattle.vlog_comb_loops.proofs.questions.uses_of.Given as goal

abbrev pub invariant-loop-at : goal.invariant-loop-at
invariant-loop-at l = (a : ℕ) (k : ModuleTree) → a < l.at → slice_get l.modules a ≡ Some k → AsksLines l.uses a k.items
