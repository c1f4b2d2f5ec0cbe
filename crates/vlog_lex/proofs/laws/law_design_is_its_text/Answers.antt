use Rattle.vlog_lex.proofs.Spelled.{spelling_has_tree}
use Rattle.vlog_lex.proofs.Written.{numbers_written, design_has_modules}
use Rattle.vlog_lex.proofs.laws.law_design_is_its_text.Goals as goal

pub returns : goal.returns
returns c = λ ms top d. spelling_has_tree ms d.form (numbers_written ms d.sound.widths) (design_has_modules ms top d)
