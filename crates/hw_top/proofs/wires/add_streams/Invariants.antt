use Rattle.std.proofs.Common.{◌≡◌}
use Rattle.hw_build.specs.Elements.{with_all}
use Rattle.hw_build.specs.Scope.{each}
use Rattle.std.specs.Prelude.{slice_get}
use Rattle.hw_top_lines.specs.Texts.{stream_wires}
use Rattle.hw_top.proofs.wires.add_streams.Given as goal

abbrev pub invariant-loop-s : goal.invariant-loop-s
invariant-loop-s l = l.draft ≡ with_all l.initial.draft (each (λ s. stream_wires (slice_get l.program.streams.items s)) l.s)
