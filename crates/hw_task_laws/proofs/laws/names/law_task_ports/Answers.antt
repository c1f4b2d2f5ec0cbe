use Rattle.hw_task_laws.proofs.names.Ported.{modules_have_ports, ports_are_these}
use Rattle.hw_task_laws.proofs.laws.names.law_task_ports.Goals as goal

pub returns : goal.returns
returns c = record { elements = ports_are_these; modules = modules_have_ports }
