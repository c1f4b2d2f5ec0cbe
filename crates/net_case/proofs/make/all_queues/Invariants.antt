use Rattle.net_case.specs.Make.{AreEmptyQueues}
use Rattle.net_case.proofs.make.all_queues.Given as goal

abbrev pub invariant-loop-s : goal.invariant-loop-s
invariant-loop-s l = AreEmptyQueues l.program l.s l.queues.items
