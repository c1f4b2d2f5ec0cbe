use Rattle.std.proofs.Common.{◌≡◌, drop, map, sum}
use Rattle.std.specs.Prelude.{◌==◌}
use Rattle.vlog_tree.specs.V3.{atom_bits}
use Rattle.vlog_rules.proofs.widths.have_bits.Given as goal

abbrev pub invariant-loop-a : goal.invariant-loop-a
invariant-loop-a l = (sum (map (atom_bits l.scope) l.atoms) == l.bits) ≡ (sum (map (atom_bits l.scope) (drop l.a-index l.atoms)) == l.left)
