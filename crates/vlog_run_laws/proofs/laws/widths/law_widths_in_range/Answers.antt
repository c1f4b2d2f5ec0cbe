use Rattle.vlog_run_laws.proofs.widths.Ruled.{widths_in_range}
use Rattle.vlog_run_laws.proofs.laws.widths.law_widths_in_range.Goals as goal

pub returns : goal.returns
returns c = λ ms sound m has. widths_in_range ms sound.widths m has
