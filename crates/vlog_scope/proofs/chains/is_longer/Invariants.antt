use Rattle.std.proofs.Common.{◌≡◌}
use Rattle.vlog_scope.specs.Chains.{further}
use Rattle.vlog_scope.proofs.chains.is_longer.Given as goal

abbrev pub invariant-loop-left : goal.invariant-loop-left
invariant-loop-left l = further l.nexts l.left l.at ≡ further l.nexts l.most l.head

abbrev pub decreases-loop-left : goal.decreases-loop-left
decreases-loop-left l = l.left
