use Rattle.std.proofs.Common.{◌≡◌, false}
use Rattle.coro_threads.specs.Turn.{HasNothing}
use Rattle.coro_threads.specs.Seats.{IsSeatOf, view}
use Rattle.coro_threads.proofs.free.work.Given as goal

abbrev pub invariant-loop : goal.invariant-loop
invariant-loop g l = IsSeatOf l.board l.worker.seat × HasNothing (view l.worker.seat) × (l.worker.short ≡ false) × (l.worker.small ≡ false)
