use Rattle.std.proofs.Common.{◌≡◌}
use Rattle.hw_build.specs.Elements.{with_all}
use Rattle.hw_build.specs.Scope.{each}
use Rattle.std.specs.Prelude.{slice_get}
use Rattle.hw_top_lines.specs.Texts.{memory_ports}
use Rattle.hw_top.proofs.ports.add_memories.Given as goal

abbrev pub invariant-loop-m : goal.invariant-loop-m
invariant-loop-m l = l.draft ≡ with_all l.initial.draft (each (λ m. memory_ports (slice_get l.program.memories.items m)) l.m)
