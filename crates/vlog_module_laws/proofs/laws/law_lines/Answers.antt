use Rattle.vlog_module_laws.proofs.Lines.{line, port, runs_by_lines, register_takes, cell_takes, connection_holds}
use Rattle.vlog_module_laws.proofs.laws.law_lines.Goals as goal

pub returns : goal.returns
returns c = record { lines = line; ports = port; runs = runs_by_lines; registers = register_takes; cells = cell_takes; connections = connection_holds }
