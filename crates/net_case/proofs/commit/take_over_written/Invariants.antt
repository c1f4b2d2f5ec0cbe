use Rattle.net_case.proofs.Taking.{HasJoined}
use Rattle.net_case.proofs.commit.take_over_written.Given as goal

abbrev pub invariant-loop-p : goal.invariant-loop-p
invariant-loop-p l = HasJoined l.program l.i l.p l.ports l.taken.items l.fn.queues.items l.queues.items
