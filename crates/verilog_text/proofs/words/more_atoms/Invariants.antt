use Rattle.std.proofs.Common.{◌≡◌, drop, map}
use Rattle.std.specs.Prelude.{fold}
use Rattle.vlog_tree.specs.Spelling.{lay_word, more_words, atom_words}
use Rattle.verilog_text.proofs.words.more_atoms.Given as goal

abbrev pub invariant-loop-a : goal.invariant-loop-a
invariant-loop-a l = fold lay_word l.page (more_words (map atom_words (drop l.a-index l.atoms))) ≡ fold lay_word l.fn.page (more_words (map atom_words l.atoms))
