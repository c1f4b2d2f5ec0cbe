use Rattle.vlog_run_laws.proofs.runs.Settled.{design_settles}
use Rattle.vlog_run_laws.proofs.laws.runs.law_design_is_grounded.Goals as goal

pub returns : goal.returns
returns c = λ ms top m d at n. design_settles ms top d m at n
