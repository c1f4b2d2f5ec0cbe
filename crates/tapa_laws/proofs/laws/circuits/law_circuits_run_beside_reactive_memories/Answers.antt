use Rattle.tapa_laws.proofs.circuits.Circuits.{circuit_runs}
use Rattle.tapa_laws.proofs.laws.circuits.law_circuits_run_beside_reactive_memories.Goals as goal

pub returns : goal.returns
returns c = circuit_runs
