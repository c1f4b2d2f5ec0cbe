use Rattle.hw_task_laws.proofs.rests.Rested.{only_takes_rest}
use Rattle.hw_task_laws.proofs.laws.rests.law_task_rests.Goals as goal

pub returns : goal.returns
returns c = only_takes_rest
