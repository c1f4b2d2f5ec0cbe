use Rattle.hw_top_laws.proofs.runs.Designs.{circuits_are_designs, circuits_beside}
use Rattle.hw_top_laws.proofs.laws.runs.law_circuits_are_designs.Goals as goal

pub returns : goal.returns
returns c = record { run = circuits_are_designs; beside = circuits_beside }
