use Rattle.hw_lines.proofs.Decodes.{any_on, any_off, pick_on}
use Rattle.hw_lines.proofs.laws.law_states.Goals as goal

pub returns : goal.returns
returns c = record { set = any_on; clear = any_off; chosen = pick_on }
