use Rattle.std.proofs.Common.{◌≡◌, drop}
use Rattle.std.specs.List.{flat_map}
use Rattle.vlog_tree.specs.Table.{first_violation}
use Rattle.vlog_tree.specs.V3.{connection_widths}
use Rattle.vlog_rules.proofs.widths.connections.Given as goal

abbrev pub invariant-loop-l : goal.invariant-loop-l
invariant-loop-l l = first_violation (flat_map (connection_widths l.ports l.scope) l.connections) ≡ first_violation (flat_map (connection_widths l.ports l.scope) (drop l.l-index l.connections))
