use Rattle.hw_task_laws.proofs.form.Whole.{tasks_are_right, tasks_are_modules, tasks_have_no_children, tasks_have_no_loop}
use Rattle.hw_task_laws.proofs.laws.form.law_task_is_right.Goals as goal

pub returns : goal.returns
returns c = record { right = tasks_are_right; form = tasks_are_modules; childless = tasks_have_no_children; loopless = tasks_have_no_loop }
