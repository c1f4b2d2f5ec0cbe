use Rattle.std.proofs.Common.{length}
use Rattle.check_scope.proofs.scope.+innermost.Given as goal

abbrev pub decreases-innermost : goal.decreases-innermost
decreases-innermost l = length l.blocks.now
