use Rattle.std.proofs.Common.{◌≡◌, ◌++◌, drop, take}
use Rattle.std.specs.List.{AllByRecursion}
use Rattle.vlog_tree.specs.Form.{IsModule}
use Rattle.vlog_tree.specs.Table.{names_of}
use Rattle.vlog_scope.proofs.library.scopes_of.Given as goal

abbrev pub invariant-loop-m : goal.invariant-loop-m
invariant-loop-m l = record {
  value : l.scopes.items ++ names_of (drop l.m-index l.modules) ≡ names_of l.modules;
  form : AllByRecursion IsModule (take l.m-index l.modules);
}
