use Rattle.std.proofs.Common.{◌≡◌, drop, map}
use Rattle.std.specs.Prelude.{fold}
use Rattle.vlog_tree.specs.Spelling.{lay_word, more_words, connection_words}
use Rattle.verilog_text.proofs.words.more_connections.Given as goal

abbrev pub invariant-loop-l : goal.invariant-loop-l
invariant-loop-l l = fold lay_word l.page (more_words (map connection_words (drop l.l-index l.connections))) ≡ fold lay_word l.fn.page (more_words (map connection_words l.connections))
