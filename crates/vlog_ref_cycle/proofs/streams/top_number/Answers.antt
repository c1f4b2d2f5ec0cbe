use Rattle.std.proofs.Common.{◌≡◌, [], subst}
use Rattle.std.specs.Prelude.{IfOk, IfSome}
use Rattle.vlog_ref_cycle.specs.Moments.{InEachRun}
use Rattle.vlog_ref_cycle.proofs.streams.top_number.Goals as goal

pub returns-clause-value : goal.returns-clause-value
returns-clause-value c =
    let v = c.net_number-2.ensures.value in
    subst (λ z. IfOk c.net_number-2.result (λ o. IfSome o (λ v. InEachRun c.args.design.now c.args.now.now (λ env nets. (nets c.args.now.now.cycle []).net z ≡ v)))) c.new.ensures v
