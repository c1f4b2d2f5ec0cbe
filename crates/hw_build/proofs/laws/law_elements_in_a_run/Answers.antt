use Rattle.hw_build.proofs.Driven.{line_there, wire_driven, output_driven, width_declared, cells_declared, block_is_own}
use Rattle.hw_build.proofs.laws.law_elements_in_a_run.Goals as goal

pub returns : goal.returns
returns c = record { lines = line_there; wires = wire_driven; outputs = output_driven; widths = width_declared; cells = cells_declared; blocks = block_is_own }
