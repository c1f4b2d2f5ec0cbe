use Rattle.tapa_laws.proofs.written.Copied.{have_lexemes, not_refused}
use Rattle.tapa_laws.proofs.laws.written.law_written_out_texts_have_lexemes.Goals as goal

pub returns-clause-lexemes : goal.returns-clause-lexemes
returns-clause-lexemes c = have_lexemes

pub returns-clause-refused : goal.returns-clause-refused
returns-clause-refused c = not_refused
