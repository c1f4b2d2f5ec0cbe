use Rattle.std.proofs.Common.{◌≡◌, ◌<◌, ℕ, Some}
use Rattle.std.specs.Prelude.{slice_get}
use Rattle.vlog_tree.specs.Form.{ModuleTree}
use Rattle.vlog_comb_loops.specs.declared.suspects.Suspect.{Suspect}
use Rattle.vlog_net_graph.specs.Names.{texts}
use Rattle.vlog_comb_loops.specs.Questions.{Asks}
use Rattle.vlog_comb_loops.proofs.questions.questions_of.Given as goal

abbrev pub invariant-loop-at : goal.invariant-loop-at
invariant-loop-at l =
    (a : ℕ) (s : Suspect) (k : ModuleTree) → a < l.at → slice_get l.suspects a ≡ Some s → slice_get l.library s.place ≡ Some k → Asks l.questions a k (texts s.graph.names.items)
