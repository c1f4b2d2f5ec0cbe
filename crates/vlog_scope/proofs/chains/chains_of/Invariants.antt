use Rattle.std.proofs.Common.{◌≤◌, length}
use Rattle.vlog_scope.specs.Chains.{IsChained}
use Rattle.vlog_scope.proofs.chains.chains_of.Given as goal

abbrev pub invariant-loop-left : goal.invariant-loop-left
invariant-loop-left l = record {
  within : l.left ≤ length l.declarations;
  chained : IsChained l.left l.declarations l.chains.heads.items l.chains.nexts.items;
}

abbrev pub decreases-loop-left : goal.decreases-loop-left
decreases-loop-left l = l.left
