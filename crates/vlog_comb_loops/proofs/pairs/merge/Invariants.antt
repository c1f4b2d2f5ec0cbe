use Rattle.std.proofs.Common.{◌≡◌, ◌++◌, vec_len}
use Rattle.vlog_tree.specs.Loops.{Edges}
use Rattle.vlog_comb_loops.specs.Merges.{IsMerged}
use Rattle.vlog_comb_loops.proofs.pairs.merge.Given as goal

abbrev pub invariant-loop-pair : goal.invariant-loop-pair
invariant-loop-pair l = (done : Edges) × (l.fn.others.items ≡ l.others.items ++ done) × IsMerged l.fn.pairs.items done l.pairs.items l.added

abbrev pub decreases-loop-pair : goal.decreases-loop-pair
decreases-loop-pair l = vec_len l.others
