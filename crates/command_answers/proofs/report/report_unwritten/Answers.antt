use Rattle.std.proofs.Common.{[], refl}
use Rattle.command_answers.specs.Ends.{Unwritten}
use Rattle.command_answers.proofs.report.report_unwritten.Goals as goal

pub returns : goal.returns
returns g c = c.report_line.ensures [] Unwritten refl refl
