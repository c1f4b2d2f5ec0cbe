use Rattle.std.proofs.Common.{◌≡◌}
use Rattle.hw_build.specs.Elements.{with_all}
use Rattle.hw_build.specs.Scope.{each}
use Rattle.std.specs.Prelude.{slice_get, slice_index}
use Rattle.hw_top_lines.specs.Texts.{channel_part}
use Rattle.hw_top.proofs.instances.add_channels.Given as goal

abbrev pub invariant-loop-s : goal.invariant-loop-s
invariant-loop-s l = l.draft ≡ with_all l.initial.draft (each (λ s. channel_part (slice_index l.added s) (slice_get l.program.streams.items s)) l.s)
