use Rattle.tapa_parse.proofs.CompleteFiles.{one_tree}
use Rattle.tapa_parse.proofs.laws.one_tree.Goals as goal

pub returns : goal.returns
returns c = one_tree
