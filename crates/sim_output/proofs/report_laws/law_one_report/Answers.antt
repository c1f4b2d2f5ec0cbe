use Rattle.sim_output.proofs.OneReport.{one_report, some_report}
use Rattle.sim_output.proofs.report_laws.law_one_report.Goals as goal

pub returns : goal.returns
returns c = record { once = one_report; some = some_report }
