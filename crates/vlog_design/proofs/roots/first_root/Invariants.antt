use Rattle.std.proofs.Common.{◌≡◌, ℕ, List, drop}
use Rattle.vlog_scope.specs.NameTable.{CountsTo}
use Rattle.vlog_tree.specs.Table.{times_in}
use Rattle.vlog_tree.specs.V6.{roots_among, first_name}
use Rattle.vlog_design.proofs.roots.first_root.Given as goal

abbrev pub invariant-loop-m : goal.invariant-loop-m
invariant-loop-m l =
    (names : List (List ℕ)) → CountsTo l.counts (times_in names)
    → first_name (roots_among names l.modules) ≡ first_name (roots_among names (drop l.m-index l.modules))
