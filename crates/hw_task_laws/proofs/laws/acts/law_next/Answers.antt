use Rattle.hw_task_laws.proofs.acts.Moves.{state_moves, state_goes_on, registers_go_on}
use Rattle.hw_task_laws.proofs.laws.acts.law_next.Goals as goal

pub returns : goal.returns
returns c = record { chosen = state_moves; state = state_goes_on; registers = registers_go_on }
