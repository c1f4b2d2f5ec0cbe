use Rattle.std.proofs.Common.{◌≡◌, drop}
use Rattle.std.specs.Prelude.{fold}
use Rattle.std.specs.List.{flat_map}
use Rattle.vlog_tree.specs.Spelling.{lay_word, item_words}
use Rattle.verilog_text.proofs.words.items.Given as goal

abbrev pub invariant-loop-i : goal.invariant-loop-i
invariant-loop-i l = fold lay_word l.page (flat_map item_words (drop l.i-index l.items)) ≡ fold lay_word l.fn.page (flat_map item_words l.items)
