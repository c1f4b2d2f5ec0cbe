use Rattle.tapa_lex.proofs.Whole.{in_order}
use Rattle.tapa_lex.proofs.laws.lexemes_are_in_order.Goals as goal

pub returns : goal.returns
returns c = in_order
