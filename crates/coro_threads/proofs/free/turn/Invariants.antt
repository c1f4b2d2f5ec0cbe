use Rattle.coro_threads.specs.Turn.{HasTurned}
use Rattle.coro_threads.proofs.free.turn.Given as goal

abbrev pub invariant-loop : goal.invariant-loop
invariant-loop g l = HasTurned l.initial.case l.case
