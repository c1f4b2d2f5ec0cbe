use Rattle.vlog_tree.specs.Flattened.{parts}
use Rattle.vlog_tree.proofs.Grounds.{no_loop}
use Rattle.vlog_tree.proofs.laws.law_grounded_is_on_no_loop.Goals as goal

pub returns : goal.returns
returns c = λ ms root b n s l. no_loop (parts ms root b) s l
