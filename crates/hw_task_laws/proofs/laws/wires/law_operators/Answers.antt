use Rattle.hw_task_laws.proofs.wires.Shown.{conversion_shown}
use Rattle.hw_task_laws.proofs.wires.Operated.{operation_shown}
use Rattle.hw_task_laws.proofs.laws.wires.law_operators.Goals as goal

pub returns : goal.returns
returns c = record { conversions = conversion_shown; operators = operation_shown }
