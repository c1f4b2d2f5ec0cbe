use Rattle.check_leaf.proofs.Leaves.{leaf_well}
use Rattle.check_leaf.proofs.laws.law_legal_leaves_are_well_formed.Goals as goal

pub returns : goal.returns
returns c = leaf_well
