use Rattle.std.proofs.Common.{subst, arith}
use denote.Param.Send.{IsSend, IsSync, sendable, param_sync}
use Rattle.coro_threads.proofs.Crossing.{worker_send, board_sync}
use Rattle.coro_threads.specs.Seats.{IsSeatOf, view, origin, Finished}
use contract.Lifetimes.{Lfts}
use Rattle.coro_threads.specs.contracts.free.run_free.{R-row, B-row, G-row}
use Rattle.coro_threads.proofs.free.run_free.Given.{Over}
use Rattle.coro_threads.proofs.free.run_free.Lts.{arg-0-2}
use Rattle.coro_threads.proofs.free.run_free.Goals as goal

pub for_each_mut-requires-send-T : goal.for_each_mut-requires-send-T
for_each_mut-requires-send-T g c κs within = search (worker_send, sendable) depth 20

-- what each worker calls is shared by all threads: stated by itself, where little is in scope to search
sync_one : (g : Over) (κs : Lfts 9) → IsSend (B-row g.row.R g.row.B g.row.G) → IsSync (R-row g.row.R g.row.B g.row.G) → IsSync (G-row g.row.R g.row.B g.row.G) → IsSync (arg-0-2 g.row.R g.row.B g.row.G g.R.laws g.B.laws g.G.laws g.R.Threads g.R.Threads-dict g.R.Wait g.R.Wait-dict g.B.Body g.B.Body-dict g.G.Gate g.G.Gate-dict g.B.Destruct-dict κs)
sync_one g κs b r y = search (board_sync, sendable) depth 20

pub for_each_mut-requires-sync-F : goal.for_each_mut-requires-sync-F
for_each_mut-requires-sync-F g c κs within = param_sync 2 (arg-0-2 g.row.R g.row.B g.row.G g.R.laws g.B.laws g.G.laws g.R.Threads g.R.Threads-dict g.R.Wait g.R.Wait-dict g.B.Body g.B.Body-dict g.G.Gate g.G.Gate-dict g.B.Destruct-dict κs) (sync_one g κs c.type_bounds.send-B c.type_bounds.sync-R c.type_bounds.sync-G)

pub returns-clause-finished : goal.returns-clause-finished
returns-clause-finished g c = λ i d lt.
    let at = (c.for_each_mut.ensures i d (omega (arith, lt, c.for_each_mut.auto.s))).1 in
    subst (λ w. IsSeatOf c.args.board.now w.seat × Finished (origin c.args.board.now) (view w.seat) w.short w.small) at.left at.call
