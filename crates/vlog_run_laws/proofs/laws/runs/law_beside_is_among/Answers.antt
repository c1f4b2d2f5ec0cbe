use Rattle.vlog_run_laws.proofs.runs.Among.{beside_is_among}
use Rattle.vlog_run_laws.proofs.laws.runs.law_beside_is_among.Goals as goal

pub returns : goal.returns
returns c = λ ms m env answers nets r. beside_is_among ms m env answers nets r
