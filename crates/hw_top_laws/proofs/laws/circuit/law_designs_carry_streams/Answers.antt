use Rattle.hw_top_laws.proofs.circuit.Circuit.{designs_are_circuits, designs_run_programs, designs_carry_streams, designs_carry_beside}
use Rattle.hw_top_laws.proofs.laws.circuit.law_designs_carry_streams.Goals as goal

pub returns : goal.returns
returns c = record { circuits = designs_are_circuits; designs = designs_run_programs; streams = designs_carry_streams; beside = designs_carry_beside }
