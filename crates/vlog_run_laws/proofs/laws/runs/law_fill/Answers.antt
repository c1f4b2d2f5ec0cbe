use Rattle.vlog_run_laws.proofs.runs.Filled.{fits, is_filled}
use Rattle.vlog_run_laws.proofs.laws.runs.law_fill.Goals as goal

pub returns : goal.returns
returns c = record { fits = fits; filled = is_filled }
