use Rattle.std.proofs.Common.{◌≡◌, ◌<◌, ℕ, List, Bool, true, length, sym, subst, arith}
use Rattle.std.proofs.lemmas.List.{length-replicate}
use Rattle.slot_split.specs.Regions.{AreClosed}
use Rattle.slot_split.proofs.Sums.{closed_none, closed_more}
use Rattle.slot_split.proofs.regions.closed_of.Goals as goal

pub loop-slot-init : goal.loop-slot-init
loop-slot-init c =
    subst (λ (marks : List Bool). AreClosed c.args.device.now c.args.corners.now 0 marks) (sym (c.in_ok-closed.ensures.items_if_clones_equal (λ y e. e)))
    (closed_none c.args.device.now c.args.corners.now c.len.result (let e = c.len.ensures in let k = c.args.device.now.slots.ok.0 in omega arith) (length-replicate c.len.result true))

pub mark_open-requires-clause-inside : goal.mark_open-requires-clause-inside
mark_open-requires-clause-inside c =
    let l : c.loop-slot.slot < length c.args.corners.now = (let a = c.requires.long in let e = c.len-slot-end.ensures in let k = c.args.device.now.slots.ok.0 in let b = c.loop-slot-test.true in omega arith) in
    let a = c.requires.inside c.loop-slot.slot l in
    let b = c.loop-slot.invariant.long in
    let e = c.requires.long in omega arith

pub loop-slot-preserved : goal.loop-slot-preserved
loop-slot-preserved c =
    closed_more c.args.device.now c.args.corners.now c.loop-slot.slot c.loop-slot.closed.items c.mark_open.new.closed.items c.mark_open.ensures.long c.mark_open.ensures.value c.loop-slot.invariant

pub returns : goal.returns
returns c =
    let e : c.loop-slot.slot ≡ length c.args.device.now.slots.items = (let a = c.loop-slot-test.false in let b = c.loop-slot.auto.slot-end in let e = c.len-slot-end.ensures in let k = c.args.device.now.slots.ok.0 in omega arith) in
    subst (λ (n : ℕ). AreClosed c.args.device.now c.args.corners.now n c.loop-slot.closed.items) e c.loop-slot.invariant
