use Rattle.std.proofs.Common.{◌<◌, ◌≤◌, ℕ, get_or}
use Rattle.number_graph.specs.Graphs.{Steps}
use Rattle.number_graph.proofs.cycles.levels_never_rise.Given as goal

abbrev pub invariant-loop-node : goal.invariant-loop-node
invariant-loop-node l = (j : ℕ) → j < l.node → (k : ℕ) → Steps l.graph j k → get_or l.levels k 0 ≤ get_or l.levels j 0
