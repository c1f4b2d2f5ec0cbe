use Rattle.std.proofs.Common.{◌∙◌, sym, subst, ap, length}
use Rattle.std.specs.Prelude.{All}
use Rattle.coro_threads.specs.Seats.{IsSeatOf, Finished, origin, view}
use Rattle.coro_threads.proofs.Slices.{whole}
use Rattle.coro_threads.proofs.crew.share.Goals as goal

pub closed-requires-clause-workers : goal.closed-requires-clause-workers
closed-requires-clause-workers g c =
    let board = c.in-Ok.board in
    let crew = c.in-Ok.crew in
    let back = c.run_free.new.crew in
    subst (λ ws. All (λ w. IsSeatOf board w.seat × Finished (origin board) (view w.seat) w.short w.small) ws)
    (sym (whole crew.len crew.items back _ crew.ok.0 (c.run_free.ensures.len ∙ ap length c.as_mut_slice.ensures.value))) c.run_free.ensures.finished
