use Rattle.std.proofs.Common.{◌≡◌, ◌+◌, ◌≤◌, ℕ, List, drop, length}
use Rattle.vlog_scope.specs.NameTable.{CountsTo}
use Rattle.vlog_tree.specs.Table.{times_in}
use Rattle.vlog_tree.specs.V6.{roots_among}
use Rattle.vlog_design.proofs.roots.count_roots.Given as goal

abbrev pub invariant-loop-m : goal.invariant-loop-m
invariant-loop-m l = record {
  within : l.count ≤ l.m-index;
  left : (names : List (List ℕ)) → CountsTo l.counts (times_in names) → length (roots_among names l.modules) ≡ l.count + length (roots_among names (drop l.m-index l.modules));
}
