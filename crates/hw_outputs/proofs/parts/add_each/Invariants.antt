use Rattle.std.proofs.Common.{◌≡◌}
use Rattle.hw_build.specs.Elements.{with_all}
use Rattle.hw_build.specs.Scope.{each}
use Rattle.hw_nets.specs.Shapes.{form}
use Rattle.hw_outputs.specs.Parts.{part_of}
use Rattle.hw_outputs.proofs.parts.add_each.Given as goal

abbrev pub invariant-loop-i : goal.invariant-loop-i
invariant-loop-i l = l.draft ≡ with_all l.initial.draft (each (part_of (form l.machine.shape) l.part) l.i)
