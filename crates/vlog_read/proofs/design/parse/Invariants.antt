use Rattle.std.proofs.Common.{◌≡◌, take}
use Rattle.vlog_lex.specs.Scanned.{words_at}
use Rattle.vlog_read.proofs.Behind.{IsBehind}
use Rattle.vlog_read.proofs.design.parse.Given as goal

abbrev pub invariant-loop-lexeme : goal.invariant-loop-lexeme
invariant-loop-lexeme l = record { behind : IsBehind (take l.lexeme-index (words_at l.text l.lexemes)) l.reader; passed : l.passed ≡ l.lexeme-index }
