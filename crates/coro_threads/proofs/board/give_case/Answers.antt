use Rattle.std.proofs.Common.{ap, subst, sym, ◌∙◌, arith, Some, [], ◌∷◌}
use mathlib.Core.Option.{none}
use Rattle.atomic_table.specs.Table.{step, rest}
use Rattle.coro_threads.specs.Turn.{MayGive, given}
use Rattle.coro_threads.proofs.Steps.{give_step}
use Rattle.coro_threads.proofs.board.give_case.Goals as goal

pub store-requires : goal.store-requires
store-requires g c =
    let m = c.exchange.ensures.3 in
    let v = ap (λ x. x.0) m in (
      c.exchange.ensures.0 ∙ c.requires.table.0,
      omega (arith, c.requires.table.1),
      give_step c.args.shared.now.key.origin.value c.args.shared.now.key.workers c.args.shared.now.table_id.slots c.exchange.new.seat.id c.exchange.new.seat.me c.args.case (step c.args.shared.now.table_id.slots 0 0 0 none)
          (ap (λ x. x.1) m ∙ ap (λ l. (0, Some c.args.case) ∷ rest l) c.requires.ready.0)
          (ap (λ x. x.turn) v ∙ c.requires.ready.1) (omega (arith, ap (λ x. x.shares) v, c.requires.ready.2)) (subst (λ x. MayGive x c.args.case) (sym v) c.requires.case.0) c.requires.case.1,
    )

pub returns-clause-view : goal.returns-clause-view
returns-clause-view g c =
    let m = c.exchange.ensures.3 in
    c.store.ensures.2 c.args.case (ap (λ x. x.1) m ∙ ap (λ l. (0, Some c.args.case) ∷ rest l) c.requires.ready.0) ∙ ap (λ x. (given x.0 c.args.case, [])) m
