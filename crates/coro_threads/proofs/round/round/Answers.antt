use Rattle.coro_threads.proofs.Outs.{out_later}
use Rattle.coro_threads.proofs.round.round.Goals as goal

pub run_ready-requires-clause-out : goal.run_ready-requires-clause-out
run_ready-requires-clause-out g c κs within = out_later c.args.case.now c.args.batches.now.items c.prepare_all.new.batches.items c.prepare_all.ensures.same c.requires.out

pub commit_all-requires : goal.commit_all-requires
commit_all-requires g c = out_later c.args.case.now c.args.batches.now.items c.prepare_all.new.batches.items c.prepare_all.ensures.same c.requires.out
