use Rattle.std.proofs.Common.{◌≡◌}
use Rattle.hw_build.specs.Elements.{with_all}
use Rattle.hw_build.specs.Scope.{each}
use Rattle.std.specs.Prelude.{slice_get}
use Rattle.hw_top_lines.specs.Texts.{scalar_port}
use Rattle.hw_top.proofs.ports.add_scalars.Given as goal

abbrev pub invariant-loop-x : goal.invariant-loop-x
invariant-loop-x l = l.draft ≡ with_all l.initial.draft (each (λ x. scalar_port (slice_get l.program.scalars.items x)) l.x)
