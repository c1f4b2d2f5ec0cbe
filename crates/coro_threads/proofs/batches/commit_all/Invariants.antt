use Rattle.std.proofs.Common.{◌≡◌, length}
use Rattle.std.specs.Prelude.{vec_capacity}
use Rattle.coro_threads.proofs.Turns.{HaveComeBack}
use Rattle.coro_threads.proofs.batches.commit_all.Given as goal

abbrev pub invariant-back : goal.invariant-back
invariant-back g l = record {
  back : HaveComeBack l.fn.case l.fn.batches.items l.case l.batches.items;
  room : vec_capacity l.batches ≡ vec_capacity l.fn.batches;
}

abbrev pub decreases-back : goal.decreases-back
decreases-back g l = length l.batches.items
