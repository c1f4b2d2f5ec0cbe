use Rattle.std.proofs.Common.{◌≡◌, ◌++◌, drop, map}
use Rattle.vlog_tree.specs.Table.{module_declared}
use Rattle.vlog_scope.proofs.scope.add_modules.Given as goal

abbrev pub invariant-loop-m : goal.invariant-loop-m
invariant-loop-m l = l.declarations.items ++ map module_declared (drop l.m-index l.modules) ≡ l.fn.declarations.items ++ map module_declared l.modules
