use Rattle.vlog_run_laws.proofs.runs.Inputs.{one_run}
use Rattle.vlog_run_laws.proofs.laws.runs.law_one_run_of_inputs.Goals as goal

pub returns : goal.returns
returns c = λ ms top m inputs contents d at fits. one_run ms top m d at inputs contents fits
