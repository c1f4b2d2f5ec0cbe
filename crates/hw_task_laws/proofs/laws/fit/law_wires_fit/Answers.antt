use Rattle.hw_task_laws.proofs.fit.Expressions.{compiled_fits}
use Rattle.hw_task_laws.proofs.laws.fit.law_wires_fit.Goals as goal

pub returns : goal.returns
returns c = compiled_fits
