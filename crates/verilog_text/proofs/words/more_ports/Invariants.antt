use Rattle.std.proofs.Common.{◌≡◌, drop, map}
use Rattle.std.specs.Prelude.{fold}
use Rattle.vlog_tree.specs.Spelling.{lay_word, more_words, port_words}
use Rattle.verilog_text.proofs.words.more_ports.Given as goal

abbrev pub invariant-loop-p : goal.invariant-loop-p
invariant-loop-p l = fold lay_word l.page (more_words (map port_words (drop l.p-index l.ports))) ≡ fold lay_word l.fn.page (more_words (map port_words l.ports))
