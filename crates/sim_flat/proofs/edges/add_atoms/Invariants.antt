use Rattle.std.proofs.Common.{◌≡◌, ◌++◌, drop}
use Rattle.std.specs.List.{flat_map}
use Rattle.vlog_tree.specs.Loops.{atom_nets}
use Rattle.sim_flat.specs.Edges.{net_edges}
use Rattle.sim_flat.proofs.edges.add_atoms.Given as goal

abbrev pub invariant-loop-a : goal.invariant-loop-a
invariant-loop-a l = l.edges.items ++ net_edges l.base l.scope l.from (flat_map atom_nets (drop l.a-index l.atoms)) ≡ l.fn.edges.items ++ net_edges l.base l.scope l.from (flat_map atom_nets l.atoms)
