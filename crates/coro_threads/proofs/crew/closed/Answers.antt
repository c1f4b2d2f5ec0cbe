use Rattle.coro_threads.proofs.crew.closed.Goals as goal

pub close-requires-clause-crew : goal.close-requires-clause-crew
close-requires-clause-crew g c = λ k d l. let r = c.requires.workers k d l in (r.0, r.1.idle)
