use Rattle.std.proofs.Common.{◌≡◌, ◌++◌, drop}
use Rattle.vlog_tree.specs.Table.{all_ports}
use Rattle.vlog_scope.proofs.library.ports_of_all.Given as goal

abbrev pub invariant-loop-m : goal.invariant-loop-m
invariant-loop-m l = l.ports.items ++ all_ports (drop l.m-index l.modules) ≡ all_ports l.modules
