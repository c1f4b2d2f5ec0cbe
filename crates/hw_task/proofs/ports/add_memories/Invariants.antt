use Rattle.std.proofs.Common.{◌≡◌}
use Rattle.hw_build.specs.Elements.{with_all}
use Rattle.hw_build.specs.Scope.{each}
use Rattle.hw_lines.specs.Texts.{memory_inputs}
use Rattle.hw_nets.specs.Shapes.{form}
use Rattle.hw_task.proofs.ports.add_memories.Given as goal

abbrev pub invariant-loop-m : goal.invariant-loop-m
invariant-loop-m l = l.draft ≡ with_all l.initial.draft (each (memory_inputs (form l.shape)) l.m)
