use Rattle.std.proofs.Common.{◌+◌, drop, reverse, ap, subst, sym}
use Rattle.vlog_tree.specs.Cycle.{run_steps}
use Rattle.vlog_ref_cycle.specs.Next.{step_nets, Shows}
use Rattle.vlog_ref_cycle.proofs.Turns.{fits_alike, alike_self, alike_twice, reads_one, steps_on, steps_shut}
use Rattle.vlog_tree.proofs.Turns.{steps_end}
use Rattle.vlog_ref_cycle.proofs.blocks.run_steps.Goals as goal

pub loop-step-init : goal.loop-step-init
loop-step-init c = record {
  alike = alike_self c.args.after.now;
  value = λ s old next reads fits shows. (next, shows, ap (λ l. run_steps s old (reverse l) c.args.steps.now next) (sym c.new-on.ensures.items));
}

pub returns-then-not-branch-clause-value : goal.returns-then-not-branch-clause-value
returns-then-not-branch-clause-value c = λ s old next reads fits shows.
    let steps = c.args.steps.now in
    let i = c.loop-step.step-index in
    let step = c.step-item.result in
    let was = c.loop-step.invariant.value s old next reads fits shows in
    let after = c.in_ok-run_step.ensures.value s old (drop (i + 1) steps) was.0 (reads_one c.args.nets.now old step_nets steps i step c.loop-step-test.true c.step-item.is reads) (fits_alike s c.args.after.now c.loop-step.after c.loop-step.invariant.alike fits) was.1 in
    steps_shut s old next was.0 steps i step c.loop-step-test.true c.step-item.is (reverse c.loop-step.on.items) (reverse c.run_step.new.on.items) c.in_ok-run_step.field-0 c.run_step.new.after was.2 after c.if-not-branch.true

pub loop-step-preserved : goal.loop-step-preserved
loop-step-preserved c = record {
  alike = alike_twice c.args.after.now c.loop-step.after c.run_step.new.after c.loop-step.invariant.alike c.in_ok-run_step.ensures.alike;
  value = λ s old next reads fits shows.
      let steps = c.args.steps.now in
      let i = c.loop-step.step-index in
      let step = c.step-item.result in
      let was = c.loop-step.invariant.value s old next reads fits shows in
      let after = c.in_ok-run_step.ensures.value s old (drop (i + 1) steps) was.0 (reads_one c.args.nets.now old step_nets steps i step c.loop-step-test.true c.step-item.is reads) (fits_alike s c.args.after.now c.loop-step.after c.loop-step.invariant.alike fits) was.1 in
      steps_on s old next was.0 steps i step c.loop-step-test.true c.step-item.is (reverse c.loop-step.on.items) (reverse c.run_step.new.on.items) c.in_ok-run_step.field-0 c.run_step.new.after was.2 after c.if-not-branch.false;
}

pub returns-clause-value : goal.returns-clause-value
returns-clause-value c = λ s old next reads fits shows.
    let was = c.loop-step.invariant.value s old next reads fits shows in
    subst (λ k. Shows c.loop-step.after k) (sym (steps_end s old next was.0 c.args.steps.now c.loop-step.step-index (reverse c.loop-step.on.items) c.loop-step-test.false was.2)) was.1
