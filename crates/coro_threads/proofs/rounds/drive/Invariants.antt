use Rattle.std.proofs.Common.{◌≡◌, ◌≤◌, [], length}
use Rattle.std.specs.Prelude.{vec_capacity}
use Rattle.net_case.specs.State.{AreAllHome}
use Rattle.coro_threads.specs.Out.{IsSameRun, ahead}
use Rattle.coro_threads.proofs.rounds.drive.Given as goal

abbrev pub invariant-rounds : goal.invariant-rounds
invariant-rounds g l = record {
  run : IsSameRun l.fn.case l.case;
  home : AreAllHome l.case;
  none : l.batches.items ≡ [];
  room : length l.case.counts ≤ vec_capacity l.batches;
}

abbrev pub decreases-rounds : goal.decreases-rounds
decreases-rounds g l = ahead l.case
