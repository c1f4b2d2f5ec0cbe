use Rattle.std.proofs.Common.{◌≡◌, ◌<◌, ◌∙◌, ℕ, length, get_or, subst, arith}
use Rattle.slot_split.specs.Regions.{AreSums}
use Rattle.slot_split.proofs.Sums.{sums_none, sums_more}
use Rattle.slot_split.proofs.regions.sums_of.Goals as goal

pub loop-slot-init : goal.loop-slot-init
loop-slot-init c =
    sums_none c.args.device.now c.args.corners.now c.in_ok-sums.sums.items
    (c.in_ok-sums.ensures.long ∙ (let e = c.len.ensures in let k = c.args.device.now.slots.ok.0 in omega arith)) c.in_ok-sums.ensures.empty

pub add_open-requires-clause-inside : goal.add_open-requires-clause-inside
add_open-requires-clause-inside c =
    let l : c.loop-slot.slot < length c.args.corners.now = (let a = c.requires.long in let e = c.len-slot-end.ensures in let k = c.args.device.now.slots.ok.0 in let b = c.loop-slot-test.true in omega arith) in
    let a = c.requires.inside c.loop-slot.slot l in
    let b = c.loop-slot.invariant.long in
    let e = c.requires.long in omega arith

pub add_open-requires-clause-low : goal.add_open-requires-clause-low
add_open-requires-clause-low c = λ k.
    (let a = c.loop-slot.invariant.low (get_or c.args.corners.now c.loop-slot.slot 0) k in
    let l : c.loop-slot.slot < 32 = (let a = c.requires.few in let e = c.len-slot-end.ensures in let k = c.args.device.now.slots.ok.0 in let b = c.loop-slot-test.true in omega arith) in
    omega arith)

pub add_open-requires-clause-small : goal.add_open-requires-clause-small
add_open-requires-clause-small c = λ k. (let a = c.requires.small c.loop-slot.slot k in omega arith)

pub loop-slot-preserved : goal.loop-slot-preserved
loop-slot-preserved c =
    sums_more c.args.device.now c.args.corners.now c.loop-slot.slot c.loop-slot.sums.items c.add_open.new.sums.items c.requires.small c.add_open.ensures.long c.add_open.ensures.value c.loop-slot.invariant

pub returns : goal.returns
returns c =
    let e : c.loop-slot.slot ≡ length c.args.device.now.slots.items = (let a = c.loop-slot-test.false in let b = c.loop-slot.auto.slot-end in let e = c.len-slot-end.ensures in let k = c.args.device.now.slots.ok.0 in omega arith) in
    subst (λ (n : ℕ). AreSums c.args.device.now c.args.corners.now n c.loop-slot.sums.items) e c.loop-slot.invariant
