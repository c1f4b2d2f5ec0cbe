use Rattle.std.proofs.Common.{[], refl, inr}
use Rattle.command_answers.specs.Ends.{NoMemory}
use Rattle.command_answers.proofs.report.report_made.Goals as goal

pub returns-in-Err : goal.returns-in-Err
returns-in-Err g c = λ name end made is. inr (c.report_line-in-Err.ensures [] NoMemory refl refl)
