use Rattle.vlog_tree.specs.Flattened.{parts}
use Rattle.vlog_tree.proofs.Grounds.{values, values_solve, values_unique}
use Rattle.vlog_tree.proofs.laws.law_one_solution.Goals as goal

pub returns : goal.returns
returns c = λ ms root b all f reads. (
  values (parts ms root b) all f reads,
  (
    values_solve (parts ms root b) all f reads,
    λ w hw x. values_unique (parts ms root b) all f reads w (values (parts ms root b) all f reads) hw (values_solve (parts ms root b) all f reads) x,
  ),
)
