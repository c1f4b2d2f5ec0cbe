use Rattle.std.proofs.Common.{◌≡◌}
use Rattle.hw_build.specs.Elements.{with_all}
use Rattle.hw_build.specs.Scope.{each}
use Rattle.hw_lines.specs.States.{state_wires}
use Rattle.hw_states.specs.Operands.{AreOperands}
use Rattle.hw_nets.specs.Shapes.{form}
use Rattle.hw_states.proofs.operands.add_states.Given as goal

abbrev pub invariant-loop-k : goal.invariant-loop-k
invariant-loop-k l = record {
  draft : l.draft ≡ with_all l.initial.draft (each (state_wires (form l.shape)) l.k);
  operands : AreOperands (form l.shape) l.operands.items l.k;
}
