use Rattle.kahn_model.proofs.WellFormed.{well_formed_wired, program_network}
use Rattle.kahn_model.proofs.laws.law_program_network.Goals as goal

pub returns : goal.returns
returns c = record { wired = well_formed_wired; network = program_network }
