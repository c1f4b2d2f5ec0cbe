use Rattle.tapa_lex.proofs.Whole.{one_list}
use Rattle.tapa_lex.proofs.laws.one_list_of_lexemes.Goals as goal

pub returns : goal.returns
returns c = one_list
