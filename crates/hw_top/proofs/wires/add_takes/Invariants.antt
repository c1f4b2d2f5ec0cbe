use Rattle.std.proofs.Common.{◌≡◌}
use Rattle.hw_build.specs.Elements.{with_all}
use Rattle.hw_build.specs.Scope.{each}
use Rattle.std.specs.Prelude.{slice_get}
use Rattle.hw_top_lines.specs.Texts.{take_wire}
use Rattle.hw_top.proofs.wires.add_takes.Given as goal

abbrev pub invariant-loop-s : goal.invariant-loop-s
invariant-loop-s l = l.draft ≡ with_all l.initial.draft (each (λ s. take_wire (slice_get l.program.streams.items s)) l.s)
