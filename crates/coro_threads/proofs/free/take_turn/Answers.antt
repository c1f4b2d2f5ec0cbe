use Rattle.std.proofs.Common.{ap, sym, subst, ◌∙◌}
use Rattle.coro_threads.specs.Turn.{given, MayGive}
use Rattle.coro_threads.specs.Seats.{view, origin, AfterTurn}
use Rattle.coro_threads.proofs.InTurn.{turn_gives, turn_after}
use Rattle.coro_threads.proofs.free.take_turn.Goals as goal

pub give-requires : goal.give-requires
give-requires g c =
    let t = rw c.in-Some.is at c.try_take.ensures.taken in (
      c.try_take.ensures.same,
      ap (λ v. v.turn) t.1,
      subst (λ v. MayGive v c.turn-turned.new.case) (sym t.1) (turn_gives (origin c.args.board.now) (view c.args.seat.now) c.in-Some.case c.requires.0.origin c.requires.1.1 t.0 c.turn-turned.result c.turn-turned.new.case c.turn-turned.ensures),
    )

pub returns-clause-turned : goal.returns-clause-turned
returns-clause-turned g c =
    let t = rw c.in-Some.is at c.try_take.ensures.taken in
    subst (λ v. AfterTurn (origin c.args.board.now) v c.turn-turned.result) (sym (c.give.ensures.view ∙ ap (λ v. given v c.turn-turned.new.case) t.1))
    (turn_after (origin c.args.board.now) (view c.args.seat.now) c.in-Some.case c.requires.0.origin c.requires.1.1 t.0 c.turn-turned.result c.turn-turned.new.case c.turn-turned.ensures)
