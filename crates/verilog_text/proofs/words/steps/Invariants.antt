use Rattle.std.proofs.Common.{◌≡◌, drop}
use Rattle.std.specs.Prelude.{fold}
use Rattle.std.specs.List.{flat_map}
use Rattle.vlog_tree.specs.Spelling.{lay_word, step_words}
use Rattle.verilog_text.proofs.words.steps.Given as goal

abbrev pub invariant-loop-s : goal.invariant-loop-s
invariant-loop-s l = fold lay_word l.page (flat_map step_words (drop l.s-index l.steps)) ≡ fold lay_word l.fn.page (flat_map step_words l.steps)
