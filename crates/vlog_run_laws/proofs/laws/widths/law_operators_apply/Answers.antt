use Rattle.vlog_run_laws.proofs.widths.Fitting.{drivers_fit}
use Rattle.vlog_run_laws.proofs.laws.widths.law_operators_apply.Goals as goal

pub returns : goal.returns
returns c = λ ms top m env nets d at fits r n path k inside. drivers_fit ms top m d at env fits nets r n path k inside
