use Rattle.std.proofs.Common.{◌≡◌, ℕ, List, drop}
use Rattle.vlog_scope.specs.NameTable.{CountsTo}
use Rattle.vlog_tree.specs.Table.{times_in}
use Rattle.vlog_tree.specs.V6.{roots_among}
use Rattle.vlog_design.proofs.roots.root_place.Given as goal

abbrev pub invariant-loop-place : goal.invariant-loop-place
invariant-loop-place l = (names : List (List ℕ)) → CountsTo l.counts (times_in names) → roots_among names l.modules ≡ roots_among names (drop l.place l.modules)
