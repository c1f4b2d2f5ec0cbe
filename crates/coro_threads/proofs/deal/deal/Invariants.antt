use Rattle.std.proofs.Common.{◌≡◌, ◌+◌, ◌<◌, ◌≤◌, vec_len, false}
use Rattle.std.specs.Prelude.{All, vec_capacity}
use Rattle.coro_threads.specs.Seats.{Gathers, IsFree}
use Rattle.coro_threads.proofs.deal.deal.Given as goal

abbrev pub invariant-loop-left : goal.invariant-loop-left
invariant-loop-left g l = (0 < l.left) × (vec_len l.crew + l.left ≡ l.workers) × (l.workers ≤ vec_capacity l.crew) × Gathers l.shared.table_id l.shared.key.origin.value l.seat l.left
    × All (λ w. IsFree l.shared.table_id l.shared.key.origin.value w × (w.short ≡ false) × (w.small ≡ false)) l.crew.items

abbrev pub decreases-loop-left : goal.decreases-loop-left
decreases-loop-left g l = l.left
