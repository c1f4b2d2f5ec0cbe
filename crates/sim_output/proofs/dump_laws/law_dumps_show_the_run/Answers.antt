use Rattle.sim_output.proofs.AreDumps.{dumps_are_dumps, dumps_show_the_run}
use Rattle.sim_output.proofs.dump_laws.law_dumps_show_the_run.Goals as goal

pub returns : goal.returns
returns c = record { dumps = dumps_are_dumps; shown = dumps_show_the_run }
