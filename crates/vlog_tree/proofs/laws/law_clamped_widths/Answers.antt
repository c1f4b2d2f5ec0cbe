use Rattle.vlog_tree.proofs.ClampedModules.{widths_same}
use Rattle.vlog_tree.proofs.laws.law_clamped_widths.Goals as goal

pub returns : goal.returns
returns c0 = λ ms. widths_same ms
