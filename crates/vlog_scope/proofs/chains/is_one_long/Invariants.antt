use Rattle.std.proofs.Common.{All, take}
use Rattle.vlog_scope.specs.Chains.{IsShort}
use Rattle.vlog_scope.proofs.chains.is_one_long.Given as goal

abbrev pub invariant-loop-head : goal.invariant-loop-head
invariant-loop-head l = All (IsShort l.nexts) (take l.head-index l.heads)
