use Rattle.run_program.proofs.OneWay.{runs_alike}
use Rattle.run_program.proofs.laws.law_programs_run_alike.Goals as goal

pub returns : goal.returns
returns c = runs_alike
