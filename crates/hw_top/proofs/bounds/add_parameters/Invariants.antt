use Rattle.std.proofs.Common.{◌≡◌}
use Rattle.hw_build.specs.Elements.{with_all}
use Rattle.hw_build.specs.Scope.{each}
use Rattle.std.specs.Prelude.{slice_get}
use Rattle.hw_top_lines.specs.Bounds.{parameter_kind, bound_elements}
use Rattle.hw_top.proofs.bounds.add_parameters.Given as goal

abbrev pub invariant-loop-p : goal.invariant-loop-p
invariant-loop-p l = l.draft ≡ with_all l.initial.draft (each (λ p. bound_elements l.program l.i p (parameter_kind l.leaf p) (slice_get l.x.scalars.items p)) l.p)
