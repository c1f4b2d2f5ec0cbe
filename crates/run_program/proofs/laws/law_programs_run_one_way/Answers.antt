use Rattle.run_program.proofs.OneWay.{one_way, some_way}
use Rattle.run_program.proofs.laws.law_programs_run_one_way.Goals as goal

pub returns-clause-some : goal.returns-clause-some
returns-clause-some c = some_way

pub returns-clause-one : goal.returns-clause-one
returns-clause-one c = one_way
