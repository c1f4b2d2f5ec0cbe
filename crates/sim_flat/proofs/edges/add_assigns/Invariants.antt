use Rattle.std.proofs.Common.{◌≡◌, ◌++◌, drop}
use Rattle.std.specs.List.{flat_map}
use Rattle.sim_flat.specs.Edges.{assign_edges}
use Rattle.sim_flat.proofs.edges.add_assigns.Given as goal

abbrev pub invariant-loop-item : goal.invariant-loop-item
invariant-loop-item l = l.edges.items ++ flat_map (assign_edges l.base l.scope) (drop l.item-index l.items) ≡ l.fn.edges.items ++ flat_map (assign_edges l.base l.scope) l.items
