use Rattle.std.proofs.Common.{ℕ, Option, Some, ap, subst, ◌∙◌}
use Rattle.std.specs.Option.{IfSome}
use Rattle.vlog_ref_cycle.proofs.InRuns.{Carries}
use Rattle.vlog_ref_cycle.proofs.Tokens.{one_token, no_token}
use Rattle.vlog_ref_cycle.proofs.streams.carries.Goals as goal

pub returns-in-Some-Some-clause-value : goal.returns-in-Some-Some-clause-value
returns-in-Some-Some-clause-value c =
    let design = c.args.design.now in
    let now = c.args.now.now in
    let x = c.args.stream.now.name in
    one_token design now c.args.stream.now.bits x c.in-Some-Some.din c.token_of.result c.token_of.ensures
    (subst (λ (o : Option (Option ℕ)). IfSome o (Carries design now x)) (c.in-Some-Some.is ∙ ap (λ (o : Option ℕ). Some o) c.in-Some-Some.field-0-is) c.in_ok-din.ensures.value)

pub returns-in-Some-None-clause-value : goal.returns-in-Some-None-clause-value
returns-in-Some-None-clause-value c =
    let design = c.args.design.now in
    let now = c.args.now.now in
    let x = c.args.stream.now.name in
    no_token design now c.args.stream.now.bits x
    (subst (λ (o : Option (Option ℕ)). IfSome o (Carries design now x)) (c.in-Some-None.is ∙ ap (λ (o : Option ℕ). Some o) c.in-Some-None.field-0-is) c.in_ok-din.ensures.value)
