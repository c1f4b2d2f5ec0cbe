use Rattle.std.proofs.Common.{◌≡◌}
use Rattle.std.specs.Prelude.{length}
use Rattle.hw_lines.specs.States.{reads_at}
use Rattle.hw_lines.specs.Texts.{most}
use Rattle.hw_nets.specs.Shapes.{form}
use Rattle.hw_task.proofs.reads.most_reads.Given as goal

abbrev pub invariant-loop-k : goal.invariant-loop-k
invariant-loop-k l = l.most ≡ most (λ k. length (reads_at (form l.shape) k)) l.k
