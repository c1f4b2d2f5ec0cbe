use Rattle.vlog_run_laws.proofs.widths.Beside.{among_is_beside}
use Rattle.vlog_run_laws.proofs.laws.runs.law_among_is_beside.Goals as goal

pub returns : goal.returns
returns c = λ ms place m env answers shows others contents nets d at fits quiet shown low r. among_is_beside ms place m d at env fits answers shows others quiet low contents nets shown r
