use Rattle.std.proofs.Common.{◌≡◌, map, drop}
use Rattle.vlog_tree.specs.Table.{port_declared}
use Rattle.vlog_values.specs.Scopes.{found}
use Rattle.vlog_values.proofs.scope.in_ports.Given as goal

abbrev pub invariant-loop-p : goal.invariant-loop-p
invariant-loop-p l = found (map port_declared l.ports) l.x ≡ found (map port_declared (drop l.p-index l.ports)) l.x
