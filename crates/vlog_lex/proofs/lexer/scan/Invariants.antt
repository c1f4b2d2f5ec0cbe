use Rattle.std.proofs.Common.{◌-◌, length}
use Rattle.vlog_lex.proofs.Whole.{HasFront}
use Rattle.vlog_lex.proofs.lexer.scan.Given as goal

abbrev pub invariant-pieces : goal.invariant-pieces
invariant-pieces l = HasFront l.text l.at l.lexemes.items

abbrev pub decreases-pieces : goal.decreases-pieces
decreases-pieces l = length l.text - l.at
