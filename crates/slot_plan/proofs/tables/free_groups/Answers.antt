use Rattle.slot_plan.specs.Merging.{is_unpinned}
use Rattle.slot_plan.proofs.Those.{those_step}
use Rattle.slot_plan.proofs.tables.free_groups.Goals as goal

pub loop-group-preserved : goal.loop-group-preserved
loop-group-preserved c =
    those_step c.loop-group.group (is_unpinned c.args.device.now) c.loop-group.groups.items c.push_wanted.new.list.items c.is_free.result c.is_free.ensures
    c.in_ok-push_wanted.ensures.yes c.in_ok-push_wanted.ensures.no c.loop-group.invariant
