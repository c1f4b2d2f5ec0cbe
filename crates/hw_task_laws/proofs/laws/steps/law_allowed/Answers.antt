use Rattle.hw_task_laws.proofs.steps.Allowed.{awaited_is_allowed, others_are_allowed, go_is_allowed}
use Rattle.hw_task_laws.proofs.laws.steps.law_allowed.Goals as goal

pub returns : goal.returns
returns c = record { awaited = awaited_is_allowed; others = others_are_allowed; go = go_is_allowed }
