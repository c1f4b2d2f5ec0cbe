use Rattle.std.proofs.Common.{rules, ap, subst, ◌∙◌, arith, slice_index}
use Rattle.net_case.specs.declared.case_state.CaseState.{CaseState}
use Rattle.net_case.specs.State.{AreAllHome}
use Rattle.coro_threads.specs.Ends.{IsOf}
use Rattle.coro_threads.specs.Seats.{origin}
use Rattle.coro_threads.proofs.Closing.{closed_with, same_case}
use Rattle.coro_threads.proofs.seats.Board.close.Goals as goal

pub unwrap-case-requires : goal.unwrap-case-requires
unwrap-case-requires g c = let s = c.gather-seat.ensures.seat in
    let f = closed_with (origin c.args.self) c.args.self.table.shared.key.workers c.gather-seat.result.id c.gather-seat.result.me.0 _ _ c.take.result c.close_with-closed.ensures.values.2
    (s.shares ∙ c.requires.count) s.idle.0 s.idle.1 c.take.ensures.value in
    search (f.there, rules)

pub returns-clause-case : goal.returns-clause-case
returns-clause-case g c = let s = c.gather-seat.ensures.seat in
    let f = closed_with (origin c.args.self) c.args.self.table.shared.key.workers c.gather-seat.result.id c.gather-seat.result.me.0 _ _ c.take.result c.close_with-closed.ensures.values.2
    (s.shares ∙ c.requires.count) s.idle.0 s.idle.1 c.take.ensures.value in
    subst (λ (x : CaseState). IsOf (origin c.args.self) x × AreAllHome x) (same_case f.case c.unwrap-case.result c.take.result f.there c.unwrap-case.ensures) (f.is, f.home)

pub returns-clause-ahead : goal.returns-clause-ahead
returns-clause-ahead g c k d l i = let s = c.gather-seat.ensures.seat in
    let f = closed_with (origin c.args.self) c.args.self.table.shared.key.workers c.gather-seat.result.id c.gather-seat.result.me.0 _ _ c.take.result c.close_with-closed.ensures.values.2
    (s.shares ∙ c.requires.count) s.idle.0 s.idle.1 c.take.ensures.value in
    omega (arith, c.gather-seat.ensures.ahead k d l i, f.ahead i, ap (λ (x : CaseState). slice_index x.counts i) (same_case f.case c.unwrap-case.result c.take.result f.there c.unwrap-case.ensures))
