use Rattle.vlog_module_laws.proofs.Blocks.{steps_leave, steps_alike, own_leaves, items_leave, drivers_alone, same}
use Rattle.vlog_module_laws.proofs.laws.law_own_block.Goals as goal

pub returns : goal.returns
returns c = record {
  rest = λ s old next on steps x h. steps_leave s old x steps on next h;
  one_name = λ s old next other on steps x h. steps_alike s old x steps on next other h;
  own = λ s old items x b own. own_leaves s old x items b old old own.has own.assigns own.alone (same x old);
  unassigned = λ s old items x h. items_leave s old x items old h;
  drivers = drivers_alone;
}
