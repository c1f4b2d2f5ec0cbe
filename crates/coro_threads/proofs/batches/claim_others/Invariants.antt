use Rattle.std.proofs.Common.{◌≡◌, ◌-◌, ◌<◌, length}
use Rattle.std.specs.Prelude.{vec_capacity}
use Rattle.coro_threads.proofs.Turns.{HaveGone}
use Rattle.coro_threads.proofs.batches.claim_others.Given as goal

abbrev pub invariant-others : goal.invariant-others
invariant-others g l = record {
  gone : HaveGone l.fn.case l.case l.batches.items;
  some : 0 < length l.batches.items;
  room : vec_capacity l.batches ≡ vec_capacity l.fn.batches;
}

abbrev pub decreases-others : goal.decreases-others
decreases-others g l = length l.case.counts - length l.batches.items
