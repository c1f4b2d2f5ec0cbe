use Rattle.std.proofs.Common.{◌≡◌}
use Rattle.std.specs.Prelude.{vec_capacity}
use Rattle.coro_threads.specs.Out.{AreSameLots, AreReady}
use Rattle.coro_threads.proofs.round.prepare_all.Given as goal

abbrev pub invariant-loop-k : goal.invariant-loop-k
invariant-loop-k g l = record {
  same : AreSameLots l.fn.batches.items l.batches.items;
  ready : AreReady l.k l.batches.items;
  room : vec_capacity l.batches ≡ vec_capacity l.fn.batches;
}
