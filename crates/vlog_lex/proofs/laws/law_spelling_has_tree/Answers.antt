use Rattle.vlog_lex.proofs.Spelled.{spelling_has_tree}
use Rattle.vlog_lex.proofs.laws.law_spelling_has_tree.Goals as goal

pub returns : goal.returns
returns c = λ ms form numbers some. spelling_has_tree ms form numbers some
