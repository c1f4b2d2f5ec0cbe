use Rattle.std.proofs.Common.{ap, sym, subst, ◌∙◌, ◌≤◌, slice_index, arith}
use Rattle.coro_threads.specs.Turn.{hand_of}
use Rattle.coro_threads.proofs.Steps.{joins_at}
use Rattle.coro_threads.proofs.Larger.{larger_left, larger_right}
use Rattle.coro_threads.proofs.deal.join.Goals as goal

pub join_seat-requires : goal.join_seat-requires
join_seat-requires g c = let k = c.requires.kept.0 in let f = c.requires.free in (
  k.table,
  f.0.table,
  c.args.worker.seat.hand ∙ ap hand_of f.1.0,
  omega (arith, c.requires.table),
  joins_at c.args.shared.now.key.origin.value c.args.shared.now.key.workers _ _ c.args.kept.now.me.0 c.args.worker.seat.seat.me.0 k.idle.0 k.idle.1 c.requires.kept.1 f.1.0 f.1.1,
)

pub returns-clause-ahead : goal.returns-clause-ahead
returns-clause-ahead g c i = subst (λ m. slice_index c.args.worker.seat.seat.me.0.seen i ≤ slice_index m.0.seen i) (sym c.join_seat.ensures.2) (larger_right c.args.kept.now.me.0.seen c.args.worker.seat.seat.me.0.seen i)

pub returns-clause-further : goal.returns-clause-further
returns-clause-further g c i = subst (λ m. slice_index c.args.kept.now.me.0.seen i ≤ slice_index m.0.seen i) (sym c.join_seat.ensures.2) (larger_left c.args.kept.now.me.0.seen c.args.worker.seat.seat.me.0.seen i)
