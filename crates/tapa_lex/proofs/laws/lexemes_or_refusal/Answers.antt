use Rattle.tapa_lex.proofs.Whole.{not_both}
use Rattle.tapa_lex.proofs.laws.lexemes_or_refusal.Goals as goal

pub returns : goal.returns
returns c = not_both
