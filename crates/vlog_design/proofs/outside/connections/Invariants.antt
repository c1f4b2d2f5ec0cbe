use Rattle.std.proofs.Common.{◌≡◌, drop, map}
use Rattle.vlog_tree.specs.Table.{first_violation}
use Rattle.vlog_tree.specs.V6.{clock_connection}
use Rattle.vlog_design.proofs.outside.connections.Given as goal

abbrev pub invariant-loop-l : goal.invariant-loop-l
invariant-loop-l l = first_violation (map clock_connection l.connections) ≡ first_violation (map clock_connection (drop l.l-index l.connections))
