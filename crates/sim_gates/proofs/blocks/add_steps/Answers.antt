use Rattle.std.proofs.Common.{length, sym, ap, subst, refl, drop, ◌+◌}
use Rattle.std.specs.Prelude.{reverse, IsTrue}
use Rattle.std.proofs.lemmas.Bool.{OnTrue_at, both_ways}
use Rattle.sim_tape.specs.Trees.{tree_of}
use Rattle.sim_tape.proofs.Growing.{solved_on, extends_twice}
use Rattle.sim_gates.proofs.AtomSlots.{slots_on}
use Rattle.vlog_tree.specs.Cycle.{run_steps}
use Rattle.sim_gates.specs.Parts.{WalkShows, WalkBefore, parts_run, is_condition}
use Rattle.sim_gates.proofs.Putting.{places_same, places_twice}
use Rattle.sim_gates.proofs.Stepping.{all_got, step_left, steps_left}
use Rattle.vlog_tree.specs.Form.{nested}
use Rattle.vlog_tree.proofs.Walks.{opened}
use Rattle.sim_gates.specs.Ready.{IsStepReady, elses}
use Rattle.sim_gates.proofs.Readying.{all_by}
use Rattle.sim_gates.proofs.blocks.add_steps.Goals as goal

pub loop-step-init : goal.loop-step-init
loop-step-init c =
    let on = c.in_ok-on.on in
    let e = c.new.ensures.items in
    record {
      extends = c.in_ok-on.ensures.extends;
      walk = subst (λ l. WalkBefore (length (tree_of c.constant.new.self).gates) on (reverse l)) (sym e) c.in_ok-on.ensures.slot;
      slots = slots_on _ _ _ c.in_ok-on.ensures.extends c.requires.next;
      same = places_same c.args.after.now.next.items;
      known = λ h. h;
      value = λ apart cells ns s k h shows first now bits before. record {
        after = now;
        walk = subst (λ l. WalkShows ns on (reverse l)) (sym e) (c.in_ok-on.ensures.says cells ns h);
        shows = before;
        same = ap (λ l. run_steps s k (parts_run ns (reverse l)) c.args.steps.now now) (sym e);
      };
      ready = λ same r. subst (λ l. IsTrue (nested (elses (reverse l)) c.args.steps.now)) (sym e) r.0;
    }

pub loop-step-preserved : goal.loop-step-preserved
loop-step-preserved c =
    let i = c.loop-step.invariant in
    let e = c.in_ok-add_step.ensures in
    record {
      extends = extends_twice _ _ _ i.extends e.extends;
      walk = e.walk;
      slots = e.slots;
      same = places_twice c.args.after.now.next.items c.loop-step.after.next.items c.add_step.new.after.next.items i.same e.same;
      known = λ h. e.known (i.known h);
      value = λ apart cells ns s k h shows first now bits before.
          let ds = c.args.nets.now.scope.now in
          let steps = c.args.steps.now in
          let at = c.loop-step.step-index in
          let step = c.step-item.result in
          let l = i.value apart cells ns s k (solved_on _ _ e.extends cells ns h) shows first now bits before in
          let bit = all_got (is_condition ds) steps at step c.loop-step-test.true c.step-item.is bits in
          let r = OnTrue_at c.if-not-branch.false e.value apart cells ns s k h shows first l.after bit l.walk l.shows in
          step_left ds c.args.nets.now.memories.now steps s k first now ns c.loop-step.after.next.items c.add_step.new.after.next.items c.loop-step.after.stores.items c.add_step.new.after.stores.items
          c.loop-step.walk.on c.add_step.new.walk.on (reverse c.loop-step.walk.parts.items) (reverse c.add_step.new.walk.parts.items) at step c.loop-step-test.true c.step-item.is l r.0 r.1;
      ready = λ same r. (c.in_ok-add_step.ensures.some (drop (c.loop-step.step-index + 1) c.args.steps.now)
          (places_twice c.args.nets.now.pairs.now c.args.after.now.next.items c.loop-step.after.next.items same c.loop-step.invariant.same)
          (all_by (IsStepReady c.args.nets.now.scope.now c.args.nets.now.pairs.now c.args.nets.now.memories.now) c.args.steps.now c.loop-step.step-index c.step-item.result c.loop-step-test.true c.step-item.is r.1)
          (subst (λ l. IsTrue (nested (elses (reverse c.loop-step.walk.parts.items)) l)) (opened c.args.steps.now c.loop-step.step-index c.step-item.result c.loop-step-test.true c.step-item.is) (c.loop-step.invariant.ready same r))).1;
    }

pub returns-clause-value : goal.returns-clause-value
returns-clause-value c = λ apart cells ns s k h shows first now bits before.
    steps_left c.args.nets.now.scope.now c.args.nets.now.memories.now c.args.steps.now s k first now ns c.loop-step.after.next.items c.loop-step.after.stores.items c.loop-step.walk.on (reverse c.loop-step.walk.parts.items) c.loop-step.step-index c.loop-step-test.false
    (c.loop-step.invariant.value apart cells ns s k h shows first now bits before)

pub returns-then-not-branch-clause-known : goal.returns-then-not-branch-clause-known
returns-then-not-branch-clause-known c = λ h. c.in_ok-add_step.ensures.known (c.loop-step.invariant.known h)

pub returns-then-not-branch-clause-same : goal.returns-then-not-branch-clause-same
returns-then-not-branch-clause-same c = places_twice c.args.after.now.next.items c.loop-step.after.next.items c.add_step.new.after.next.items c.loop-step.invariant.same c.in_ok-add_step.ensures.same

pub returns-then-not-branch-clause-some : goal.returns-then-not-branch-clause-some
returns-then-not-branch-clause-some c = λ same r.
    absurd (both_ways c.in_ok-add_step.field-0 c.if-not-branch.true (c.in_ok-add_step.ensures.some (drop (c.loop-step.step-index + 1) c.args.steps.now)
    (places_twice c.args.nets.now.pairs.now c.args.after.now.next.items c.loop-step.after.next.items same c.loop-step.invariant.same)
    (all_by (IsStepReady c.args.nets.now.scope.now c.args.nets.now.pairs.now c.args.nets.now.memories.now) c.args.steps.now c.loop-step.step-index c.step-item.result c.loop-step-test.true c.step-item.is r.1)
    (subst (λ l. IsTrue (nested (elses (reverse c.loop-step.walk.parts.items)) l)) (opened c.args.steps.now c.loop-step.step-index c.step-item.result c.loop-step-test.true c.step-item.is) (c.loop-step.invariant.ready same r))).0)

pub returns-clause-some : goal.returns-clause-some
returns-clause-some c = λ same r. refl
