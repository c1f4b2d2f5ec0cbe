use Rattle.std.proofs.Common.{◌≡◌, drop}
use Rattle.std.specs.List.{flat_map}
use Rattle.vlog_tree.specs.Table.{first_violation}
use Rattle.vlog_tree.specs.V2.{atom_uses}
use Rattle.vlog_rules.proofs.names.atoms.Given as goal

abbrev pub invariant-loop-a : goal.invariant-loop-a
invariant-loop-a l = first_violation (flat_map (atom_uses l.scope) l.atoms) ≡ first_violation (flat_map (atom_uses l.scope) (drop l.a-index l.atoms))
