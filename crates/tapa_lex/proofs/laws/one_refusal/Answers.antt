use Rattle.tapa_lex.proofs.Whole.{one_refusal}
use Rattle.tapa_lex.proofs.laws.one_refusal.Goals as goal

pub returns : goal.returns
returns c = one_refusal
