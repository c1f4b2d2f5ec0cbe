use Rattle.std.proofs.Common.{◌≡◌, ◌++◌, drop}
use Rattle.vlog_tree.specs.Table.{items_declared}
use Rattle.vlog_scope.proofs.scope.add_items.Given as goal

abbrev pub invariant-loop-item : goal.invariant-loop-item
invariant-loop-item l = l.declarations.items ++ items_declared (drop l.item-index l.items) ≡ l.fn.declarations.items ++ items_declared l.items
