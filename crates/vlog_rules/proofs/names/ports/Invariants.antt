use Rattle.std.proofs.Common.{◌≡◌, drop}
use Rattle.std.specs.List.{flat_map}
use Rattle.vlog_tree.specs.Table.{first_violation}
use Rattle.vlog_tree.specs.V2.{port_uses}
use Rattle.vlog_rules.proofs.names.ports.Given as goal

abbrev pub invariant-loop-p : goal.invariant-loop-p
invariant-loop-p l = first_violation (flat_map (port_uses l.scope) l.ports) ≡ first_violation (flat_map (port_uses l.scope) (drop l.p-index l.ports))
