use Rattle.sim_output.proofs.OneDump.{one_dump, some_dump}
use Rattle.sim_output.proofs.dump_laws.law_one_simulation_dump.Goals as goal

pub returns : goal.returns
returns c = record { once = one_dump; some = some_dump }
