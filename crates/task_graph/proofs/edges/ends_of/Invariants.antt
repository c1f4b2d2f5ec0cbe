use Rattle.std.proofs.Common.{◌≡◌, map, take}
use Rattle.task_graph.specs.declared.Edge.{Edge}
use Rattle.task_graph.proofs.edges.ends_of.Given as goal

abbrev pub invariant-loop-edge : goal.invariant-loop-edge
invariant-loop-edge l = l.ends.items ≡ map (λ (e : Edge). (e.from, e.to)) (take l.edge-index l.edges)
