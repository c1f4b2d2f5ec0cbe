use Rattle.std.proofs.Common.{◌≡◌}
use Rattle.hw_lines.specs.Effects.{first_by}
use Rattle.hw_nets.specs.Shapes.{form}
use Rattle.hw_states.proofs.registers.first_value.Given as goal

abbrev pub invariant-loop-i : goal.invariant-loop-i
invariant-loop-i l = l.first ≡ first_by (form l.shape) l.r l.i
