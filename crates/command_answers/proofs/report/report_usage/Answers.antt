use Rattle.std.proofs.Common.{[], refl}
use Rattle.command_answers.specs.Ends.{Usage}
use Rattle.command_answers.proofs.report.report_usage.Goals as goal

pub returns : goal.returns
returns g c = c.report_line.ensures [] Usage refl refl
