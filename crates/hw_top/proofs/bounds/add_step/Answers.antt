use Rattle.hw_top.proofs.BoundNets.{step_grows}
use Rattle.hw_top.proofs.bounds.add_step.Goals as goal

pub returns : goal.returns
returns c =
    step_grows c.args.draft.now c.add_converted.new.draft c.args.i c.args.p c.args.step c.in_ok-next.next c.args.first c.kind_before-source.result c.kind_at-target.result c.args.kinds.now c.in_ok-net.net c.in_ok-old.old
    c.in_ok-add_converted.ensures c.in_ok-net.ensures c.in_ok-next.ensures c.in_ok-old.ensures c.kind_before-source.ensures c.kind_at-target.ensures
