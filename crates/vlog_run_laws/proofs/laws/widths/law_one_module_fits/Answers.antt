use Rattle.vlog_run_laws.proofs.widths.OneModule.{all_fit}
use Rattle.vlog_run_laws.proofs.laws.widths.law_one_module_fits.Goals as goal

pub returns : goal.returns
returns c = λ ms is_top sound loopless m in_ms run f given n. all_fit ms is_top sound loopless m in_ms run f given n
