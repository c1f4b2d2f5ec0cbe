use Rattle.vlog_run_laws.proofs.runs.Surround.{one_run_from}
use Rattle.vlog_run_laws.proofs.laws.runs.law_one_run_in_environment.Goals as goal

pub returns : goal.returns
returns c = λ ms top m env contents d at power_up. one_run_from ms top m d at env contents power_up
