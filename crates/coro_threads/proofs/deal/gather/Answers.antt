use Rattle.std.proofs.Common.{◌∷◌, [], ◌++◌, ap, sym, ◌∙◌, subst, append_assoc, arith}
use Rattle.std.specs.Prelude.{All}
use Rattle.coro_threads.specs.Seats.{Gathers, IsFree}
use Rattle.coro_threads.proofs.Gathering.{behind_more, still_all}
use Rattle.coro_threads.proofs.deal.gather.Goals as goal

pub loop-worker-preserved : goal.loop-worker-preserved
loop-worker-preserved g c =
    let v = c.loop-worker.invariant in
    let w = c.in-Some.worker in
    let z = c.args.shared.now.table_id in
    let o = c.args.shared.now.key.origin.value in
    let e = c.in-Some.ensures.items in (
      w ∷ v.0,
      sym (append_assoc c.pop-in-loop-worker.new.self.items (w ∷ []) v.0) ∙ (ap (λ l. l ++ v.0) (sym e) ∙ v.1),
      omega arith,
      subst (Gathers z o c.join.new.kept) (omega (arith, v.3.shares)) c.join.ensures.seat,
      behind_more c.loop-worker.kept.me.0.seen c.join.new.kept.me.0.seen w v.0 c.join.ensures.ahead c.join.ensures.further v.4,
      still_all (IsFree z o) c.pop-in-loop-worker.new.self.items w (subst (All (IsFree z o)) e v.5),
    )
