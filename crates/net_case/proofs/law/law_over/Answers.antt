use Rattle.net_case.proofs.Over.{over_means}
use Rattle.net_case.proofs.law.law_over.Goals as goal

pub returns : goal.returns
returns c = over_means
