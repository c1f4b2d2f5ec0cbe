use Rattle.std.proofs.Common.{take}
use Rattle.std.specs.Prelude.{count_by}
use Rattle.vlog_scope.specs.NameTable.{CountsTo}
use Rattle.vlog_tree.specs.V4.{is_block_of}
use Rattle.vlog_rules.proofs.drivers.block_counts.Given as goal

abbrev pub invariant-loop-i : goal.invariant-loop-i
invariant-loop-i l = CountsTo l.counts (λ x. count_by (is_block_of x) (take l.i-index l.items))
