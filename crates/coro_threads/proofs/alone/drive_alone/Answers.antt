use Rattle.coro_threads.proofs.Turns.{one_fewer}
use Rattle.coro_threads.proofs.alone.drive_alone.Goals as goal

pub batches-smaller : goal.batches-smaller
batches-smaller g c =
    let h = rw c.in-Work.is at c.claim.ensures in
    let ran = c.in_ok-ran.ensures.ran in
    one_fewer c.batches.case c.claim.new.self c.in-Work.batch c.run-ran.new.self c.batches.invariant.home c.valid.ensures h.0 ran.same c.commit.new.self c.in-Ok.ensures.ok c.valid-in-batches.ensures (ran.some h.0.some)
