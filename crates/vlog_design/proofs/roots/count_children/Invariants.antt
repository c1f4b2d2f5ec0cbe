use Rattle.std.proofs.Common.{◌≡◌, ◌++◌, ℕ, List, drop}
use Rattle.std.specs.List.{flat_map}
use Rattle.vlog_scope.specs.NameTable.{CountsTo}
use Rattle.vlog_tree.specs.Table.{times_in}
use Rattle.vlog_tree.specs.V6.{item_children}
use Rattle.vlog_design.proofs.roots.count_children.Given as goal

abbrev pub invariant-loop-i : goal.invariant-loop-i
invariant-loop-i l =
    (names : List (List ℕ)) → CountsTo l.fn.counts (times_in names)
    → (done : List (List ℕ)) × CountsTo l.counts (times_in done) × (done ++ flat_map item_children (drop l.i-index l.i-items) ≡ names ++ flat_map item_children l.i-items)
