use Rattle.vlog_lex.proofs.OneTree.{one_tree}
use Rattle.vlog_lex.proofs.laws.law_one_tree.Goals as goal

pub returns : goal.returns
returns c = λ text ms ns h g. one_tree text ms ns h g
