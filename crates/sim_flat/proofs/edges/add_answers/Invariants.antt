use Rattle.std.proofs.Common.{◌≡◌, ◌++◌, drop}
use Rattle.std.specs.List.{flat_map}
use Rattle.sim_flat.specs.Edges.{answer_edges}
use Rattle.sim_flat.proofs.edges.add_answers.Given as goal

abbrev pub invariant-loop-d : goal.invariant-loop-d
invariant-loop-d l = l.edges.items ++ flat_map (answer_edges l.scope l.ports) (drop l.d-index l.d-items) ≡ l.fn.edges.items ++ flat_map (answer_edges l.scope l.ports) l.d-items
