use Rattle.vlog_lex.proofs.Formed.{tree_formed}
use Rattle.vlog_lex.proofs.laws.law_tree_has_form.Goals as goal

pub returns : goal.returns
returns c = tree_formed
