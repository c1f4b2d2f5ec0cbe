use Rattle.std.proofs.Common.{◌∙◌}
use Rattle.slot_plan.proofs.Filling.{widths_more, widths_low}
use Rattle.slot_plan.proofs.tables.widths_of.Goals as goal

pub loop-e-preserved : goal.loop-e-preserved
loop-e-preserved c =
    let g = c.args.graph.now in
    let xs = c.loop-e.widths.items in
    let ys = c.add_width.new.widths.items in
    let zs = c.add_width-in-loop-e.new.widths.items in
    let a = c.add_width.ensures in
    let b = c.add_width-in-loop-e.ensures in
    let inv = c.loop-e.invariant in
    record {
      long = b.long ∙ (a.long ∙ inv.long);
      value = widths_more g c.args.group c.loop-e.e xs ys zs c.tail-tail.result c.head-head.result c.width-width.result c.tail-tail.ensures.value c.head-head.ensures.value c.width-width.ensures.value inv.value a.value b.value;
      low = widths_low c.args.group c.loop-e.e xs ys zs c.tail-tail.result c.head-head.result c.width-width.result c.width-width.ensures.small inv.low a.value b.value;
    }
