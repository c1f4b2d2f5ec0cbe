use Rattle.std.proofs.Common.{suc, ◌+◌, [], Option, refl, subst, ◌∙◌}
use Rattle.std.specs.Prelude.{IfSome, Vec}
use Rattle.std.specs.List.{AllByRecursion}
use Rattle.std.specs.declared.alloc.Global.{Global}
use Rattle.vlog_tree.specs.Grounded.{AllTwo}
use Rattle.vlog_values.specs.declared.moment.Held.{Held}
use Rattle.vlog_values.specs.declared.moment.OutsideMemory.{OutsideMemory}
use Rattle.vlog_ref_cycle.specs.Moments.{HeldIs, InEachRun}
use Rattle.vlog_ref_cycle.specs.Next.{IsAfterStore, IsAlike, IsSameMemory}
use Rattle.vlog_ref_cycle.proofs.Later.{at_next}
use Rattle.vlog_ref_cycle.proofs.following.next.Goals as goal

pub returns-clause-kept : goal.returns-clause-kept
returns-clause-kept c =
    let now = c.args.now.now in
    record {
      held = subst (λ (o : Option (Vec Held Global)). IfSome o (λ v. AllTwo IsAlike now.held.items v.items)) c.in-Some.is c.in_ok-held.ensures.alike;
      scalars = c.in_ok-scalars.ensures ∙ c.deref.ensures.value;
      outside = subst (λ (o : Option (Vec OutsideMemory Global)). IfSome o (λ v. AllTwo IsSameMemory now.outside.items v.items)) c.in-Some-2.is c.in_ok-outside.ensures.same;
    }

pub returns-clause-value : goal.returns-clause-value
returns-clause-value c =
    let design = c.args.design.now in
    let now = c.args.now.now in
    at_next design now (record { cycle = now.cycle + 1; held = c.in-Some.held; scalars = c.in_ok-scalars.scalars; outside = c.in-Some-2.outside }) refl (c.in_ok-scalars.ensures ∙ c.deref.ensures.value)
    (subst (λ (o : Option (Vec Held Global)). IfSome o (λ v. InEachRun design now (λ env nets. AllByRecursion (HeldIs design.modules.now design.top.now (nets (suc now.cycle))) v.items))) c.in-Some.is c.in_ok-held.ensures.value)
    (subst (λ (o : Option (Vec OutsideMemory Global)). IfSome o (λ v. InEachRun design now (λ env nets. AllTwo (IsAfterStore (nets now.cycle [])) now.outside.items v.items))) c.in-Some-2.is c.in_ok-outside.ensures.value)
