use Rattle.std.proofs.Common.{◌≡◌, ◌<◌, List, ◌++◌, length, vec_len}
use Rattle.std.specs.Prelude.{All}
use Rattle.coro_threads.specs.Seats.{Gathers, IsFree, IsBehind}
use Rattle.coro_threads.proofs.deal.gather.Given as goal

abbrev pub invariant-loop-worker : goal.invariant-loop-worker
invariant-loop-worker g l = (done : List _) × (l.crew.items ++ done ≡ l.fn.crew.items) × (0 < length done) × Gathers l.shared.table_id l.shared.key.origin.value l.kept (length done)
    × All (IsBehind l.kept.me.0.seen) done × All (IsFree l.shared.table_id l.shared.key.origin.value) l.crew.items

abbrev pub decreases-loop-worker : goal.decreases-loop-worker
decreases-loop-worker g l = vec_len l.crew
