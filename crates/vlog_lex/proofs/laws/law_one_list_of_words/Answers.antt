use Rattle.vlog_lex.proofs.Cuts.{one_list}
use Rattle.vlog_lex.proofs.laws.law_one_list_of_words.Goals as goal

pub returns : goal.returns
returns c = λ text some others h k. one_list text some others h k
