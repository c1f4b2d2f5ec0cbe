use Rattle.vlog_run_laws.proofs.runs.Among.{one_run_among}
use Rattle.vlog_run_laws.proofs.laws.runs.law_one_run_beside.Goals as goal

pub returns : goal.returns
returns c = λ ms top m env answers shows others contents d at power_up. one_run_among ms m env contents answers shows others top d at power_up
