use Rattle.hw_task_laws.proofs.runs.Machines.{runs_machines}
use Rattle.hw_task_laws.proofs.laws.runs.law_runs.Goals as goal

pub returns : goal.returns
returns c = record { runs = runs_machines }
