use Rattle.std.proofs.Common.{◌≡◌}
use Rattle.hw_build.specs.Elements.{with_all}
use Rattle.hw_build.specs.Scope.{each}
use Rattle.hw_lines.specs.States.{decoded}
use Rattle.hw_nets.specs.Shapes.{form}
use Rattle.hw_states.proofs.states.add_decodes.Given as goal

abbrev pub invariant-loop-k : goal.invariant-loop-k
invariant-loop-k l = l.draft ≡ with_all l.initial.draft (each (decoded (form l.shape)) l.k)
