use Rattle.std.proofs.Common.{◌≡◌, ◌<◌, ◌≤◌, true, [], Option, length, get_or, sym, ap, subst, ◌∙◌}
use Rattle.std.specs.Prelude.{is_some, IfSome}
use Rattle.std.specs.List.{list_all}
use Rattle.vlog_values.specs.declared.moment.OutsideMemory.{OutsideMemory}
use Rattle.vlog_ref_cycle.specs.Moments.{InEachRun}
use Rattle.vlog_ref_cycle.specs.Next.{outside_known, IsAfterStore, IsSameMemory}
use Rattle.vlog_ref_cycle.proofs.Leaves.{taken_more}
use Rattle.vlog_ref_cycle.proofs.InRuns.{all_taken}
use Rattle.vlog_ref_cycle.proofs.Listed.{passed, outside_more}
use Rattle.vlog_ref_cycle.proofs.following.all_outside_after.Goals as goal

pub loop-m-preserved : goal.loop-m-preserved
loop-m-preserved c =
    let design = c.args.design.now in
    let now = c.args.now.now in
    let ms = now.outside.items in
    let m = c.m-item.result in
    let k = c.in-Some.after in
    let low : c.loop-m.m-index < length ms = subst (λ l. c.loop-m.m-index < length l) c.deref-m-items.ensures.value c.loop-m-test.true in
    let is : m ≡ get_or ms c.loop-m.m-index m = subst (λ l. m ≡ get_or l c.loop-m.m-index m) c.deref-m-items.ensures.value c.m-item.is in
    let same : IsSameMemory m k = subst (λ (o : Option OutsideMemory). IfSome o (λ k. IsSameMemory m k)) c.in-Some.is c.in_ok-after.ensures.same in
    let known : true ≡ outside_known design now c.args.depth m = ap (λ (o : Option OutsideMemory). is_some o) (sym c.in-Some.is) ∙ c.in_ok-after.ensures.known in
    record {
      known = passed (outside_known design now c.args.depth) ms c.loop-m.m-index m (list_all (outside_known design now c.args.depth) ms) low is known c.loop-m.invariant.known;
      same = taken_more IsSameMemory ms c.loop-m.m-index m c.loop-m.out.items c.push.new.self.items k low is c.loop-m.invariant.same same c.in_ok-push-in-Some.ensures.items;
      value = outside_more design now c.loop-m.m-index m k c.loop-m.out.items c.push.new.self.items low is c.loop-m.invariant.value
          (subst (λ (o : Option OutsideMemory). IfSome o (λ k. InEachRun design now (λ env nets. IsAfterStore (nets now.cycle []) m k))) c.in-Some.is c.in_ok-after.ensures.value)
          c.in_ok-push-in-Some.ensures.items;
    }

pub returns-clause-value : goal.returns-clause-value
returns-clause-value c =
    let now = c.args.now.now in
    let past : length now.outside.items ≤ c.loop-m.m-index = subst (λ l. length l ≤ c.loop-m.m-index) c.deref-m-items.ensures.value c.loop-m-test.false in
    λ env nets q. all_taken (IsAfterStore (nets now.cycle [])) now.outside.items c.loop-m.out.items c.loop-m.m-index past (c.loop-m.invariant.value env nets q)
