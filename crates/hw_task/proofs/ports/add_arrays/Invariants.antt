use Rattle.std.proofs.Common.{◌≡◌}
use Rattle.hw_build.specs.Elements.{with_all}
use Rattle.hw_build.specs.Scope.{each}
use Rattle.hw_lines.specs.Texts.{array}
use Rattle.hw_nets.specs.Shapes.{form}
use Rattle.hw_task.proofs.ports.add_arrays.Given as goal

abbrev pub invariant-loop-a : goal.invariant-loop-a
invariant-loop-a l = l.draft ≡ with_all l.initial.draft (each (array (form l.shape)) l.a)
