use Rattle.vlog_lex.proofs.Flattened.{flat_block, block_of_flat}
use Rattle.vlog_lex.proofs.laws.law_flat_block.Goals as goal

pub returns : goal.returns
returns c = λ steps i j. (flat_block steps i j, block_of_flat steps i j)
