use Rattle.std.proofs.Common.{◌∙◌, ◌+◌, ap, min, take}
use Rattle.std.specs.List.{list_any}
use Rattle.vlog_tree.specs.V4.{step_assigns}
use Rattle.vlog_tree.specs.Table.{one_if}
use Rattle.vlog_rules.proofs.Counts.{any_more, all_taken}
use Rattle.vlog_rules.proofs.drivers.count_block.Goals as goal

pub loop-s-preserved : goal.loop-s-preserved
loop-s-preserved c = record {
  own = λ x.
      c.in_ok-count_step.ensures.own x (list_any (step_assigns x) (take c.loop-s.s-index c.args.steps.now)) (c.loop-s.invariant.own x)
      ∙ ap (λ b. one_if b) (any_more (step_assigns x) c.args.steps.now c.loop-s.s-index c.s-item.result c.loop-s-test.true c.s-item.is);
  blocks = λ f e x.
      c.in_ok-count_step.ensures.blocks x (list_any (step_assigns x) (take c.loop-s.s-index c.args.steps.now)) (f x) (c.loop-s.invariant.own x) (c.loop-s.invariant.blocks f e x)
      ∙ ap (λ b. min (f x + one_if b) 2) (any_more (step_assigns x) c.args.steps.now c.loop-s.s-index c.s-item.result c.loop-s-test.true c.s-item.is);
}

pub returns : goal.returns
returns c = λ f e x. c.loop-s.invariant.blocks f e x ∙ ap (λ steps. min (f x + one_if (list_any (step_assigns x) steps)) 2) (all_taken c.args.steps.now c.loop-s.s-index c.loop-s-test.false)
