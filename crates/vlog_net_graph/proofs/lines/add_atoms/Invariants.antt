use Rattle.std.proofs.Common.{List, map}
use Rattle.std.specs.List.{flat_map}
use Rattle.vlog_tree.specs.declared.tree.Atom.{Atom}
use Rattle.vlog_tree.specs.Loops.{atom_nets}
use Rattle.vlog_tree.specs.Table.{Name}
use Rattle.vlog_net_graph.specs.Merged.{under}
use Rattle.vlog_net_graph.proofs.Growing.{AddsSoFar}
use Rattle.vlog_net_graph.proofs.lines.add_atoms.Given as goal

abbrev pub invariant-loop-a : goal.invariant-loop-a
invariant-loop-a l = AddsSoFar (λ (atoms : List Atom). map (λ (y : Name). under l.front (l.x, y)) (flat_map atom_nets atoms)) l.atoms l.a-index l.fn.g l.g
