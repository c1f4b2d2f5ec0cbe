use Rattle.std.proofs.Common.{◌≡◌, ◌+◌, drop}
use Rattle.tapa_syntax.specs.Characters as characters
use Rattle.vlog_lex.specs.Reading.{is_in}
use Rattle.vlog_lex.proofs.class.run.Given as goal

abbrev pub invariant-loop-b : goal.invariant-loop-b
invariant-loop-b l = (l.passed ≡ l.b-index) × (characters.run (is_in l.class) l.text ≡ l.passed + characters.run (is_in l.class) (drop l.b-index l.text))
