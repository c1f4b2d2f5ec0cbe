use Rattle.std.proofs.Common.{◌≡◌, ◌<◌, ℕ, Some}
use Rattle.std.specs.Prelude.{slice_get}
use Rattle.vlog_tree.specs.declared.tree.Item.{Item}
use Rattle.tapa_base.specs.Lists.{Has}
use Rattle.vlog_tree.specs.Table.{Name}
use Rattle.vlog_tree.specs.Loops.{item_instances}
use Rattle.vlog_comb_loops.specs.Questions.{asked_of, Keeps}
use Rattle.vlog_comb_loops.proofs.questions.ask_lines.Given as goal

abbrev pub invariant-loop-line : goal.invariant-loop-line
invariant-loop-line l = record {
  there : (j : ℕ) (item : Item) (m i : Name) → j < l.line → slice_get l.items j ≡ Some item → Has (item_instances item) (m, i) → Has (asked_of l.questions m) (l.at, Some j);
  kept : Keeps l.fn.questions l.questions;
}
