use Rattle.std.proofs.Common.{length}
use Rattle.check_scope.proofs.scope.+entity_in_last.Given as goal

abbrev pub decreases-entity_in_last : goal.decreases-entity_in_last
decreases-entity_in_last l = length l.inner.now
