use Rattle.std.proofs.Common.{◌≡◌}
use Rattle.hw_build.specs.Elements.{with_all}
use Rattle.hw_build.specs.Scope.{each}
use Rattle.hw_top_lines.specs.Bounds.{conversion_step}
use Rattle.hw_top.proofs.bounds.add_steps.Given as goal

abbrev pub invariant-loop-step : goal.invariant-loop-step
invariant-loop-step l = l.draft ≡ with_all l.initial.draft (each (conversion_step l.i l.p l.first l.kinds) l.step)
