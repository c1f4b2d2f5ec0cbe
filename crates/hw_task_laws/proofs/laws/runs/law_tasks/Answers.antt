use Rattle.hw_task_laws.proofs.runs.Machines.{lowered_is_machine, instances_run}
use Rattle.hw_task_laws.proofs.laws.runs.law_tasks.Goals as goal

pub returns : goal.returns
returns c = record { machines = lowered_is_machine; instances = instances_run }
