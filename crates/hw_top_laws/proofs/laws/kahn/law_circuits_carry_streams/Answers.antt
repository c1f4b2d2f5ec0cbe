use Rattle.hw_top_laws.proofs.kahn.Carries.{circuits_carry_streams, circuits_carry_beside}
use Rattle.hw_top_laws.proofs.laws.kahn.law_circuits_carry_streams.Goals as goal

pub returns : goal.returns
returns c = record { run = circuits_carry_streams; beside = circuits_carry_beside }
