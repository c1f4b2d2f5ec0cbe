use Rattle.std.proofs.Common.{arith}
use Rattle.coro_threads.proofs.Steps.{splits_at}
use Rattle.coro_threads.proofs.deal.split.Goals as goal

pub split_seat-seat-requires : goal.split_seat-seat-requires
split_seat-seat-requires g c = let k = c.requires.seat.0 in (
  k.table,
  omega (arith, c.requires.table),
  splits_at c.args.shared.now.key.origin.value c.args.shared.now.key.workers _ c.args.seat.now.me.0 k.idle.0 k.idle.1 c.requires.seat.1,
)
