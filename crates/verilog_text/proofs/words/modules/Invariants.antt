use Rattle.std.proofs.Common.{◌≡◌, drop}
use Rattle.std.specs.Prelude.{fold}
use Rattle.std.specs.List.{flat_map}
use Rattle.vlog_tree.specs.Spelling.{lay_word, module_words}
use Rattle.verilog_text.proofs.words.modules.Given as goal

abbrev pub invariant-loop-m : goal.invariant-loop-m
invariant-loop-m l = fold lay_word l.page (flat_map module_words (drop l.m-index l.modules)) ≡ fold lay_word l.fn.page (flat_map module_words l.modules)
