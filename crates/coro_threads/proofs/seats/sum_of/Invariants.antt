use Rattle.std.proofs.Common.{◌≡◌, take}
use Rattle.coro_threads.specs.Ticks.{capped_sum}
use Rattle.coro_threads.proofs.seats.sum_of.Given as goal

abbrev pub invariant-loop-count : goal.invariant-loop-count
invariant-loop-count l = l.sum ≡ capped_sum (take l.count-index l.counts)
