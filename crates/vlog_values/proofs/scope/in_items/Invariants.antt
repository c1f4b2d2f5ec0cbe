use Rattle.std.proofs.Common.{◌≡◌, drop}
use Rattle.vlog_tree.specs.Table.{items_declared}
use Rattle.vlog_values.specs.Scopes.{found}
use Rattle.vlog_values.proofs.scope.in_items.Given as goal

abbrev pub invariant-loop-item : goal.invariant-loop-item
invariant-loop-item l = found (items_declared l.items) l.x ≡ found (items_declared (drop l.item-index l.items)) l.x
