use Rattle.slot_plan.proofs.Filling.{pins_more, pins_low}
use Rattle.slot_plan.proofs.tables.beside_pins.Goals as goal

pub loop-e-preserved : goal.loop-e-preserved
loop-e-preserved c =
    let inv = c.loop-e.invariant in
    record {
      value = pins_more c.args.graph.now c.args.device.now c.args.pinned.now.slots.items c.args.spot.group c.args.spot.slot c.loop-e.e c.loop-e.sum c.pinned_end.result c.pinned_end-in-loop-e.result c.width.result c.tail-tail.result c.head-head.result
          c.tail-tail.ensures.value c.head-head.ensures.value c.width.ensures.value c.pinned_end.ensures.value c.pinned_end-in-loop-e.ensures.value inv.value;
      low = pins_low c.loop-e.e c.loop-e.sum c.pinned_end.result c.pinned_end-in-loop-e.result c.width.result c.pinned_end.ensures.small c.pinned_end-in-loop-e.ensures.small c.width.ensures.small inv.low;
    }
