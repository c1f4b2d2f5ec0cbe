use Rattle.vlog_run_laws.proofs.widths.Beside.{runs_beside}
use Rattle.vlog_run_laws.proofs.widths.Fitting.{run_fits_beside}
use Rattle.vlog_run_laws.proofs.laws.widths.law_numbers_fit_beside.Goals as goal

pub returns : goal.returns
returns c = record {
  fit = λ ms place top env acks nets d at fits r. run_fits_beside ms place top d at env fits acks nets r;
  show = λ ms place top env nets d at fits r. runs_beside ms place top d at env fits nets r;
}
