use Rattle.std.proofs.Common.{◌≡◌, map, take}
use Rattle.task_graph.specs.Edges.{edge_of}
use Rattle.task_graph.proofs.edges.edges_of.Given as goal

abbrev pub invariant-loop-stream : goal.invariant-loop-stream
invariant-loop-stream l = l.edges.items ≡ map edge_of (take l.stream-index l.streams)
