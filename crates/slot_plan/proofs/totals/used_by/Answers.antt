use Rattle.std.proofs.Common.{◌<◌, length, get_or, arith}
use Rattle.slot_plan.proofs.Limits.{few_groups}
use Rattle.slot_plan.proofs.Uses.{amount_read}
use Rattle.slot_plan.proofs.UsedSums.{used_more, used_all}
use Rattle.slot_plan.proofs.totals.used_by.Goals as goal

pub add_at-sum-requires-clause-first : goal.add_at-sum-requires-clause-first
add_at-sum-requires-clause-first c = λ k.
    (let n = c.loop-group.group in
    let s = get_or c.args.slots.now n 0 in
    let few = few_groups c.args.graph.now in
    let l : n < c.args.graph.now.groups = omega arith in
    let may = c.requires.plan.each n (let a = c.requires.plan.whole in omega arith) in
    let a = amount_read c.loop-group.used.items s c.index.result.now (let b = may.inside in let e = c.loop-group.invariant.long in omega arith) c.index.ensures k in
    let b = c.loop-group.invariant.low s k may.inside in
    omega arith)

pub loop-group-preserved : goal.loop-group-preserved
loop-group-preserved c =
    let n = c.loop-group.group in
    let s = get_or c.args.slots.now n 0 in
    let l : n < c.args.graph.now.groups = omega arith in
    let may = c.requires.plan.each n (let a = c.requires.plan.whole in omega arith) in
    let inside : s < length c.loop-group.used.items = (let b = may.inside in let e = c.loop-group.invariant.long in omega arith) in
    used_more c.args.device.now c.args.needs.now c.args.slots.now n c.loop-group.used.items c.add_at-sum.result may.inside (λ k. c.requires.needs.small n k)
    (λ k. (let a = c.add_at-sum.ensures k in let b = amount_read c.loop-group.used.items s c.index.result.now inside c.index.ensures k in omega arith))
    c.loop-group.invariant

pub returns : goal.returns
returns c =
    used_all c.args.graph.now c.args.device.now c.args.needs.now c.args.slots.now c.loop-group.group c.loop-group.used.items c.requires.needs c.requires.plan
    (let a = c.loop-group-test.false in let b = c.loop-group.auto.group-end in omega arith)
    c.loop-group.invariant
