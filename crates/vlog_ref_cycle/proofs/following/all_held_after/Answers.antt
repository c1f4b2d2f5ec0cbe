use Rattle.std.proofs.Common.{◌≡◌, suc, ◌<◌, true, Option, length, get_or, sym, ap, subst, ◌∙◌}
use Rattle.std.specs.Prelude.{is_some, IfSome}
use Rattle.std.specs.List.{list_all}
use Rattle.vlog_values.specs.declared.moment.Held.{Held}
use Rattle.vlog_ref_cycle.specs.Moments.{HeldIs, InEachRun}
use Rattle.vlog_ref_cycle.specs.Next.{IsAlike, held_known}
use Rattle.vlog_ref_cycle.proofs.Leaves.{taken_more}
use Rattle.vlog_ref_cycle.proofs.Listed.{passed, held_more}
use Rattle.vlog_ref_cycle.proofs.following.all_held_after.Goals as goal

pub loop-h-preserved : goal.loop-h-preserved
loop-h-preserved c =
    let design = c.args.design.now in
    let now = c.args.now.now in
    let hs = now.held.items in
    let h = c.h-item.result in
    let k = c.in-Some.after in
    let low : c.loop-h.h-index < length hs = subst (λ l. c.loop-h.h-index < length l) c.deref-h-items.ensures.value c.loop-h-test.true in
    let is : h ≡ get_or hs c.loop-h.h-index h = subst (λ l. h ≡ get_or l c.loop-h.h-index h) c.deref-h-items.ensures.value c.h-item.is in
    let alike : IsAlike h k = subst (λ (o : Option Held). IfSome o (λ k. IsAlike h k)) c.in-Some.is c.in_ok-after.ensures.alike in
    let known : true ≡ held_known design now c.args.depth h = ap (λ (o : Option Held). is_some o) (sym c.in-Some.is) ∙ c.in_ok-after.ensures.known in
    record {
      known = passed (held_known design now c.args.depth) hs c.loop-h.h-index h (list_all (held_known design now c.args.depth) hs) low is known c.loop-h.invariant.known;
      alike = taken_more IsAlike hs c.loop-h.h-index h c.loop-h.out.items c.push.new.self.items k low is c.loop-h.invariant.alike alike c.in_ok-push-in-Some.ensures.items;
      value = held_more design now c.loop-h.h-index h k c.loop-h.out.items c.push.new.self.items low is c.loop-h.invariant.value
          (subst (λ (o : Option Held). IfSome o (λ k. InEachRun design now (λ env nets. HeldIs design.modules.now design.top.now (nets now.cycle) h → HeldIs design.modules.now design.top.now (nets (suc now.cycle)) k))) c.in-Some.is c.in_ok-after.ensures.value)
          c.in_ok-push-in-Some.ensures.items;
    }
