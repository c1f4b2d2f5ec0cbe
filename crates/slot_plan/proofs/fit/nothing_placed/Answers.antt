use Rattle.std.proofs.Common.{arith}
use Rattle.slot_plan.proofs.Placings.{placed_none}
use Rattle.slot_plan.proofs.fit.nothing_placed.Goals as goal

pub returns : goal.returns
returns c =
    placed_none c.args.device.now c.args.needs.now _ c.requires
    (let a = c.in_ok-slots.ensures.len in let b = c.len.ensures in let k = c.in_ok-slots.slots.ok.0 in omega arith)
    (let a = c.in_ok-used.ensures.long in let k = c.args.device.now.slots.ok.0 in omega arith)
    c.in_ok-used.ensures.empty
