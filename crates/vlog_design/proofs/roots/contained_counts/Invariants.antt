use Rattle.std.proofs.Common.{◌≡◌, ◌++◌, ℕ, List, drop}
use Rattle.std.specs.List.{flat_map}
use Rattle.vlog_scope.specs.NameTable.{CountsTo}
use Rattle.vlog_tree.specs.Table.{times_in}
use Rattle.vlog_tree.specs.V6.{module_children}
use Rattle.vlog_design.proofs.roots.contained_counts.Given as goal

abbrev pub invariant-loop-m : goal.invariant-loop-m
invariant-loop-m l = (done : List (List ℕ)) × CountsTo l.counts (times_in done) × (done ++ flat_map module_children (drop l.m-index l.modules) ≡ flat_map module_children l.modules)
