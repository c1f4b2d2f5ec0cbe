use Rattle.net_case.specs.State.{AreAllHome}
use Rattle.coro_threads.specs.Out.{IsSameRun}
use Rattle.coro_threads.proofs.crew.by_turns.Given as goal

abbrev pub invariant-loop : goal.invariant-loop
invariant-loop g l = record {
  run : IsSameRun l.initial.case l.case;
  home : AreAllHome l.case;
}
