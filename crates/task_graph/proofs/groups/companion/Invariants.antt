use Rattle.std.proofs.Common.{ℕ, ◌<◌}
use Rattle.task_graph.specs.Reach.{MarkEachOther}
use Rattle.task_graph.proofs.groups.companion.Given as goal

abbrev pub invariant-loop-j : goal.invariant-loop-j
invariant-loop-j l = (j : ℕ) → j < l.j → MarkEachOther l.rows j l.i → ⊥
