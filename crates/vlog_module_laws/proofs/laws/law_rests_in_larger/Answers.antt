use Rattle.vlog_module_laws.proofs.Larger.{rests_more, rests_fewer}
use Rattle.vlog_module_laws.proofs.laws.law_rests_in_larger.Goals as goal

pub returns : goal.returns
returns c = λ ms all t u within have agree m has x y. (λ r. rests_more ms all t u within have agree r has, λ r. rests_fewer ms all t u within have agree r has)
