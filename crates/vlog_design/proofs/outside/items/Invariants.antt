use Rattle.std.proofs.Common.{◌≡◌, drop}
use Rattle.std.specs.List.{flat_map}
use Rattle.vlog_tree.specs.Table.{first_violation}
use Rattle.vlog_tree.specs.V6.{clock_connections}
use Rattle.vlog_design.proofs.outside.items.Given as goal

abbrev pub invariant-loop-i : goal.invariant-loop-i
invariant-loop-i l = first_violation (flat_map clock_connections l.items) ≡ first_violation (flat_map clock_connections (drop l.i-index l.items))
