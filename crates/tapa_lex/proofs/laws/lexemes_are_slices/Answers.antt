use Rattle.tapa_lex.proofs.Whole.{are_slices}
use Rattle.tapa_lex.proofs.laws.lexemes_are_slices.Goals as goal

pub returns : goal.returns
returns c = are_slices
