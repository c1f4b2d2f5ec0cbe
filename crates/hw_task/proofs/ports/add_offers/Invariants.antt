use Rattle.std.proofs.Common.{◌≡◌}
use Rattle.hw_build.specs.Elements.{with_all}
use Rattle.hw_build.specs.Scope.{each}
use Rattle.hw_lines.specs.Texts.{offered}
use Rattle.hw_nets.specs.Shapes.{form}
use Rattle.hw_task.proofs.ports.add_offers.Given as goal

abbrev pub invariant-loop-s : goal.invariant-loop-s
invariant-loop-s l = l.draft ≡ with_all l.initial.draft (each (offered (form l.shape)) l.s)
