use Rattle.std.proofs.Common.{slice_index_or, subst}
use Rattle.net_core.specs.declared.body.Pause.{Pause}
use Rattle.net_case.specs.Batch.{Ran}
use Rattle.net_case.proofs.round.run_all.Goals as goal

pub returns-clause-ran : goal.returns-clause-ran
returns-clause-ran g c = λ i d lt.
    let at = (c.for_each_mut.ensures i d lt).1 in
    subst (λ v. (pause : Pause) × Ran (slice_index_or c.args.batches.now i d) v pause) at.left
    (subst (λ v. (pause : Pause) × Ran v at.after_call.now pause) at.argument_is at.call)
