use Rattle.hw_task_laws.proofs.wires.Fixes.{fixed_value, numbers_fixed}
use Rattle.hw_task_laws.proofs.wires.Computed.{computed as shows_value}
use Rattle.hw_task_laws.proofs.laws.wires.law_expressions.Goals as goal

pub returns : goal.returns
returns c = record { computed = fixed_value; numbers = numbers_fixed; shows = shows_value }
