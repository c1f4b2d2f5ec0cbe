use Rattle.net_case.proofs.Taking.{HasTaken}
use Rattle.net_case.proofs.commit.take_over_taken.Given as goal

abbrev pub invariant-loop-p : goal.invariant-loop-p
invariant-loop-p l = HasTaken l.program l.i l.p l.ports l.limits.items l.fn.queues.items l.queues.items l.fn.taken.items l.taken.items l.fn.offered.items l.offered.items
