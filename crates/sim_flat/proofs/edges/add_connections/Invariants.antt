use Rattle.std.proofs.Common.{◌≡◌, ◌++◌, drop}
use Rattle.std.specs.List.{flat_map}
use Rattle.sim_flat.specs.Edges.{connection_edge}
use Rattle.sim_flat.proofs.edges.add_connections.Given as goal

abbrev pub invariant-loop-l : goal.invariant-loop-l
invariant-loop-l l = l.edges.items ++ flat_map (connection_edge l.base l.scope l.base_inside l.inside) (drop l.l-index l.connections) ≡ l.fn.edges.items ++ flat_map (connection_edge l.base l.scope l.base_inside l.inside) l.connections
