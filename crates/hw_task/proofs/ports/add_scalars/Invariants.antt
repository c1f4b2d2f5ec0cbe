use Rattle.std.proofs.Common.{◌≡◌}
use Rattle.hw_build.specs.Elements.{with_all}
use Rattle.hw_build.specs.Scope.{each}
use Rattle.hw_lines.specs.Texts.{scalar_port}
use Rattle.hw_nets.specs.Shapes.{form}
use Rattle.hw_task.proofs.ports.add_scalars.Given as goal

abbrev pub invariant-loop-i : goal.invariant-loop-i
invariant-loop-i l = l.draft ≡ with_all l.initial.draft (each (scalar_port (form l.shape)) l.i)
