use Rattle.net_case.specs.State.{AreAllHome}
use Rattle.coro_threads.specs.Out.{IsSameRun, ahead}
use Rattle.coro_threads.proofs.alone.drive_alone.Given as goal

abbrev pub invariant-batches : goal.invariant-batches
invariant-batches g l = record {
  run : IsSameRun l.fn.case l.case;
  home : AreAllHome l.case;
}

abbrev pub decreases-batches : goal.decreases-batches
decreases-batches g l = ahead l.case
