use Rattle.std.proofs.Common.{◌≡◌, ◌++◌, map, drop}
use Rattle.std.specs.List.{flat_map}
use Rattle.vlog_tree.specs.Loops.{atom_nets}
use Rattle.vlog_ref_cycle.specs.Sources.{net_read}
use Rattle.vlog_ref_cycle.proofs.lines.add_atoms.Given as goal

abbrev pub invariant-loop-a : goal.invariant-loop-a
invariant-loop-a l = l.out.items ++ map (net_read l.scope) (flat_map atom_nets (drop l.a-index l.atoms)) ≡ l.fn.out.items ++ map (net_read l.scope) (flat_map atom_nets l.atoms)
