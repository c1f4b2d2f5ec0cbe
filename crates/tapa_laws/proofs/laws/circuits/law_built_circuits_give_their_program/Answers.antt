use Rattle.tapa_laws.proofs.circuits.Given.{circuits_give, planned_circuits_give}
use Rattle.tapa_laws.proofs.laws.circuits.law_built_circuits_give_their_program.Goals as goal

pub returns : goal.returns
returns c = record { circuits = circuits_give; plans = planned_circuits_give }
