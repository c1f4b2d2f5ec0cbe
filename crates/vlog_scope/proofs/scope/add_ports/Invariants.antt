use Rattle.std.proofs.Common.{◌≡◌, ◌++◌, drop, map}
use Rattle.vlog_tree.specs.Table.{port_declared}
use Rattle.vlog_scope.proofs.scope.add_ports.Given as goal

abbrev pub invariant-loop-port : goal.invariant-loop-port
invariant-loop-port l = l.declarations.items ++ map port_declared (drop l.port-index l.ports) ≡ l.fn.declarations.items ++ map port_declared l.ports
