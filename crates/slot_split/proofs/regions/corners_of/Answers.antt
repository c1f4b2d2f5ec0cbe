use Rattle.std.proofs.Common.{◌+◌, sym, subst, arith}
use Rattle.slot_split.proofs.Corners.{AreCornersBelow, corners_none, corners_push, corners_all}
use Rattle.slot_split.proofs.regions.corners_of.Goals as goal

pub loop-slot-init : goal.loop-slot-init
loop-slot-init c = subst (AreCornersBelow c.args.device.now c.args.row_levels c.args.level 0) (sym c.new-corners.ensures.items) (corners_none c.args.device.now c.args.row_levels c.args.level)

pub loop-slot-preserved : goal.loop-slot-preserved
loop-slot-preserved c =
    subst (AreCornersBelow c.args.device.now c.args.row_levels c.args.level (c.loop-slot.slot + 1)) (sym c.in_ok-push.ensures.items)
    (corners_push c.args.device.now c.args.row_levels c.args.level c.loop-slot.slot c.loop-slot.corners.items c.corner.result c.loop-slot.invariant c.corner.ensures.value c.corner.ensures.within)

pub returns : goal.returns
returns c =
    corners_all c.args.device.now c.args.row_levels c.args.level c.loop-slot.slot c.loop-slot.corners.items
    (let a = c.loop-slot-test.false in let b = c.loop-slot.auto.slot-end in let e = c.len-slot-end.ensures in let k = c.args.device.now.slots.ok.0 in omega arith)
    c.loop-slot.invariant
