use Rattle.tapa_laws.proofs.circuits.OneRun.{one_reactive_run}
use Rattle.tapa_laws.proofs.laws.circuits.law_one_reactive_run.Goals as goal

pub returns : goal.returns
returns c = one_reactive_run
