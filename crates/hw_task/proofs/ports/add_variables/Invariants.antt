use Rattle.std.proofs.Common.{◌≡◌}
use Rattle.hw_build.specs.Elements.{with_all}
use Rattle.hw_build.specs.Scope.{each}
use Rattle.hw_lines.specs.Texts.{variable}
use Rattle.hw_nets.specs.Shapes.{form}
use Rattle.hw_task.proofs.ports.add_variables.Given as goal

abbrev pub invariant-loop-r : goal.invariant-loop-r
invariant-loop-r l = l.draft ≡ with_all l.initial.draft (each (variable (form l.shape)) l.r)
