use Rattle.std.proofs.Common.{◌-◌, length}
use Rattle.tapa_lex.proofs.Whole.{HasFront}
use Rattle.tapa_lex.proofs.lexer.lex.Given as goal

abbrev pub invariant-pieces : goal.invariant-pieces
invariant-pieces l = HasFront l.text l.cursor l.found.items

abbrev pub decreases-pieces : goal.decreases-pieces
decreases-pieces l = length l.text - l.cursor.at
