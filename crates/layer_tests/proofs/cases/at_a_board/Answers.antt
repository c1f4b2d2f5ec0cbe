use Rattle.std.proofs.Common.{◌∙◌, sym, subst, ap, length}
use Rattle.std.specs.Prelude.{All}
use denote.Param.Send.{sendable}
use Rattle.coro_threads.specs.Turn.{HasNothing}
use Rattle.coro_threads.specs.Seats.{IsSeatOf, view}
use Rattle.coro_threads.proofs.Slices.{whole}
use Rattle.run_program.proofs.Sending.{coro_send}
use Rattle.layer_tests.proofs.cases.at_a_board.Goals as goal

pub run_free-requires-send-B : goal.run_free-requires-send-B
run_free-requires-send-B g c κs within = search (coro_send, sendable) depth 20

pub close-requires-clause-crew : goal.close-requires-clause-crew
close-requires-clause-crew g c =
    let board = c.in-Ok.board in
    let crew = c.in-Ok.workers in
    let back = c.run_free.new.crew in
    subst (λ ws. All (λ w. IsSeatOf board w.seat × HasNothing (view w.seat)) ws)
    (sym (whole crew.len crew.items back _ crew.ok.0 (c.run_free.ensures.len ∙ ap length c.as_mut_slice.ensures.value)))
    (λ k d l. let r = c.run_free.ensures.finished k d l in (r.0, r.1.idle))
