use Rattle.std.proofs.Common.{ap, ◌∙◌, arith, Some}
use mathlib.Core.Option.{none}
use Rattle.atomic_table.specs.Table.{step}
use Rattle.coro_threads.proofs.Steps.{take_step, in_hand}
use Rattle.coro_threads.proofs.board.seize.Goals as goal

pub compare_exchange-requires : goal.compare_exchange-requires
compare_exchange-requires g c = (
  c.requires.table.0,
  omega (arith, c.requires.table.1),
  take_step c.args.shared.now.key.origin.value c.args.shared.now.key.workers c.args.shared.now.table_id.slots c.args.seat.now.id c.args.seat.now.me (step c.args.shared.now.table_id.slots 0 0 1 none)
      c.requires.ready.0 c.requires.ready.1 c.requires.ready.2,
)

pub exchange-requires : goal.exchange-requires
exchange-requires g c =
    let t = c.compare_exchange.ensures.2.0 c.if-compare_exchange-eq0.true in (
      c.compare_exchange.ensures.0 ∙ c.requires.table.0,
      (
        Some t.0,
        in_hand _ (Some t.0) (ap (λ x. x.1) t.1),
      ),
    )
