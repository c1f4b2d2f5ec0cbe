use Rattle.std.proofs.Common.{◌<◌, length, arith, ap, false}
use Rattle.std.specs.Prelude.{not}
use Rattle.std.proofs.lemmas.List.{get_or_read}
use Rattle.slot_plan.specs.Merging.{is_open}
use Rattle.slot_plan.proofs.Those.{those_step}
use Rattle.slot_plan.proofs.tables.open_slots.Goals as goal

pub loop-slot-preserved : goal.loop-slot-preserved
loop-slot-preserved c =
    let d = c.args.device.now in
    let l : c.loop-slot.slot < length d.forbidden.items = (let k = d.forbidden.ok.0 in omega arith) in
    those_step c.loop-slot.slot (is_open d) c.loop-slot.slots.items c.push_wanted.new.list.items (not c.index.result.now)
    (ap not (get_or_read d.forbidden.items c.loop-slot.slot c.index.result.now l c.index.ensures false))
    c.in_ok-push_wanted.ensures.yes c.in_ok-push_wanted.ensures.no c.loop-slot.invariant
