use Rattle.hw_task_laws.proofs.form.Whole.{tasks_fit, tasks_are_fitting}
use Rattle.hw_task_laws.proofs.laws.form.law_task_fits.Goals as goal

pub returns : goal.returns
returns c = record { alone = tasks_fit; fitting = tasks_are_fitting }
