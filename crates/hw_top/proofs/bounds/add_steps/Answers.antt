use Rattle.std.proofs.Common.{◌≡◌, length, arith}
use Rattle.hw_top_lines.specs.Bounds.{conversion_step}
use Rattle.hw_nets.proofs.Grows.{each_more, each_end}
use Rattle.hw_top.proofs.bounds.add_steps.Goals as goal

pub loop-step-preserved : goal.loop-step-preserved
loop-step-preserved c =
    each_more c.args.draft.now c.loop-step.draft c.add_step.new.draft (conversion_step c.args.i c.args.p c.args.first c.args.kinds.now) c.loop-step.step c.loop-step.invariant c.in_ok-add_step.ensures

pub returns : goal.returns
returns c =
    let all : c.loop-step.step ≡ length c.args.kinds.now = omega (arith, c.in_ok-count.ensures) in
    each_end c.args.draft.now c.loop-step.draft (conversion_step c.args.i c.args.p c.args.first c.args.kinds.now) c.loop-step.step (length c.args.kinds.now) all c.loop-step.invariant
