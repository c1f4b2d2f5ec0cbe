use Rattle.std.proofs.Common.{◌≡◌, ◌<◌, ℕ, [], get_or, Some}
use Rattle.std.specs.Prelude.{slice_get}
use Rattle.std.specs.Option.{option_copied}
use Rattle.vlog_tree.specs.Form.{ModuleTree}
use Rattle.vlog_comb_loops.specs.Search.{AreJudged}
use Rattle.vlog_comb_loops.specs.Summaries.{is_named, IsClosedSum}
use Rattle.vlog_comb_loops.proofs.search.judge_all.Given as goal

abbrev pub invariant-loop-place : goal.invariant-loop-place
invariant-loop-place l = record {
  same : l.sums.items ≡ l.fn.sums.items;
  closed : (j : ℕ) (m : ModuleTree) → j < l.place → slice_get l.library j ≡ Some m → IsClosedSum l.library (is_named (option_copied l.root)) l.sums.items m (get_or l.sums.items j []);
  judged : AreJudged l.library (is_named (option_copied l.root)) l.sums.items l.place l.suspects.items;
}
