use Rattle.hw_build.proofs.Ors.{none_is_zero, set_stays, tree_is_or, root_driven}
use Rattle.hw_build.proofs.laws.law_trees.Goals as goal

pub returns : goal.returns
returns c = record { none = none_is_zero; set = set_stays; trees = tree_is_or; roots = root_driven }
