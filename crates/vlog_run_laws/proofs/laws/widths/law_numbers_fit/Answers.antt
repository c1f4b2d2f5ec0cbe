use Rattle.vlog_run_laws.proofs.widths.Fitting.{run_fits}
use Rattle.vlog_run_laws.proofs.laws.widths.law_numbers_fit.Goals as goal

pub returns : goal.returns
returns c = λ ms top m env nets d at fits r. run_fits ms top m d at env fits nets r
