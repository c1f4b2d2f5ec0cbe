use Rattle.plan_report.proofs.OneAdded.{one_added}
use Rattle.plan_report.proofs.laws.law_one_added.Goals as goal

pub returns : goal.returns
returns c = one_added
