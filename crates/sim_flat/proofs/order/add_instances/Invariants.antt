use Rattle.std.proofs.Common.{◌≡◌, ◌++◌}
use Rattle.sim_flat.specs.Edges.{instance_edges, edges_below}
use Rattle.sim_flat.proofs.order.add_instances.Given as goal

abbrev pub invariant-loop-k : goal.invariant-loop-k
invariant-loop-k l = l.edges.items ≡ l.fn.edges.items ++ edges_below (instance_edges l.modules l.flat) l.k
