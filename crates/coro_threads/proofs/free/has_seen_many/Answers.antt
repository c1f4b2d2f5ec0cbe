use Rattle.std.proofs.Common.{ap, sym, subst, ◌∙◌}
use Rattle.coro_threads.specs.Turn.{MayGive, HasNothing, given}
use Rattle.coro_threads.specs.Seats.{view, origin}
use Rattle.coro_threads.proofs.InTurn.{turned_none, turned_gives, turned_idle}
use Rattle.coro_threads.proofs.free.has_seen_many.Goals as goal

pub give-requires : goal.give-requires
give-requires g c = let t = c.take-case.ensures in (
  t.same,
  ap (λ v. v.turn) t.view,
  subst (λ v. MayGive v c.take-case.result) (sym t.view)
      (turned_gives (origin c.args.board.now) (view c.args.seat.now) c.take-case.result c.requires.0.origin c.requires.1.1 t.finds c.take-case.result (turned_none c.take-case.result)),
)

pub returns-clause-idle : goal.returns-clause-idle
returns-clause-idle g c = let t = c.take-case.ensures in
    subst HasNothing (sym (c.give.ensures.view ∙ ap (λ v. given v c.take-case.result) t.view))
    (turned_idle (origin c.args.board.now) (view c.args.seat.now) c.take-case.result c.requires.0.origin c.requires.1.1 t.finds c.take-case.result (turned_none c.take-case.result))
