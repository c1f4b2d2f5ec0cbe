use Rattle.std.proofs.Common.{◌≡◌}
use Rattle.hw_build.specs.Elements.{with_all}
use Rattle.hw_build.specs.Scope.{each}
use Rattle.hw_lines.specs.Texts.{reads_of}
use Rattle.hw_nets.specs.Shapes.{form}
use Rattle.hw_task.proofs.reads.add_all_reads.Given as goal

abbrev pub invariant-loop-p : goal.invariant-loop-p
invariant-loop-p l = l.draft ≡ with_all l.initial.draft (each (reads_of (form l.shape)) l.p)
