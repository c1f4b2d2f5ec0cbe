use Rattle.std.proofs.Common.{◌<◌, ℕ, take, get_or}
use Rattle.tapa_base.specs.Lists.{Has}
use Rattle.number_graph.proofs.cycles.are_below.Given as goal

abbrev pub invariant-loop-node : goal.invariant-loop-node
invariant-loop-node l = (k : ℕ) → Has (take l.node-index l.nodes) k → get_or l.levels k 0 < l.level
