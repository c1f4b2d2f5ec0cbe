use Rattle.std.proofs.Common.{[], refl}
use Rattle.command_answers.specs.Ends.{NoMemory}
use Rattle.command_answers.proofs.report.report_no_memory.Goals as goal

pub returns : goal.returns
returns g c = c.report_line.ensures [] NoMemory refl refl
