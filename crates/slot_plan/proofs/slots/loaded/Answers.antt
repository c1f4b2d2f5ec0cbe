use Rattle.std.proofs.Common.{◌*◌, get_or, arith, ap, refl, true, false}
use Rattle.std.proofs.lemmas.Bool.{false≢true}
use Rattle.slot_plan.proofs.Uses.{amount_read, amount_sum, amount_or, no_use, amounts_below, amounts_fit, fits_amount}
use Rattle.slot_plan.proofs.slots.loaded.Goals as goal

pub sum_of-after-requires-clause-first : goal.sum_of-after-requires-clause-first
sum_of-after-requires-clause-first c = amounts_below _ _ (λ k. (let a = amount_or c.args.used.now c.args.slot no_use c.requires.used k in let b = c.requires.low k in omega arith))

pub sum_of-after-requires-clause-second : goal.sum_of-after-requires-clause-second
sum_of-after-requires-clause-second c = amounts_below _ _ (λ k. (let a = amount_or c.args.needs.now c.args.group no_use c.requires.group k in let b = c.requires.need k in omega arith))

pub is_within-requires-clause-load : goal.is_within-requires-clause-load
is_within-requires-clause-load c = amounts_below _ _ (λ k.
    (let a = amount_or c.args.used.now c.args.slot no_use c.requires.used k in let b = c.requires.low k in
    let d = amount_or c.args.needs.now c.args.group no_use c.requires.group k in let e = c.requires.need k in
    let s = amount_sum (get_or c.args.used.now c.args.slot no_use) (get_or c.args.needs.now c.args.group no_use) c.sum_of-after.result c.sum_of-after.ensures k in
    omega arith))

pub is_within-requires-clause-capacity : goal.is_within-requires-clause-capacity
is_within-requires-clause-capacity c = amounts_below _ _ (λ k.
    (let a = amount_read c.args.device.now.slots.items c.args.slot c.index.result.now c.requires.slot c.index.ensures k in let b = c.requires.capacity k in omega arith))

pub returns-then-is_within-clause-sum : goal.returns-then-is_within-clause-sum
returns-then-is_within-clause-sum c = λ k.
    (let a = amount_or c.args.used.now c.args.slot no_use c.requires.used k in
    let d = amount_or c.args.needs.now c.args.group no_use c.requires.group k in
    let s = amount_sum (get_or c.args.used.now c.args.slot no_use) (get_or c.args.needs.now c.args.group no_use) c.sum_of-after.result c.sum_of-after.ensures k in
    omega arith)

pub returns-then-is_within-clause-fits : goal.returns-then-is_within-clause-fits
returns-then-is_within-clause-fits c = λ k.
    (let a = amount_read c.args.device.now.slots.items c.args.slot c.index.result.now c.requires.slot c.index.ensures k in
    let f = fits_amount c.sum_of-after.result c.index.result.now c.args.device.now.percent (c.if-is_within.ensures.0 refl) k in
    let m = ap (λ x. x * c.args.device.now.percent) a in omega arith)

pub returns-else-is_within-clause-none : goal.returns-else-is_within-clause-none
returns-else-is_within-clause-none c = λ all. false≢true (c.if-is_within.ensures.1 (amounts_fit c.sum_of-after.result c.index.result.now c.args.device.now.percent (λ k.
    (let a = amount_or c.args.used.now c.args.slot no_use c.requires.used k in
    let d = amount_or c.args.needs.now c.args.group no_use c.requires.group k in
    let s = amount_sum (get_or c.args.used.now c.args.slot no_use) (get_or c.args.needs.now c.args.group no_use) c.sum_of-after.result c.sum_of-after.ensures k in
    let e = amount_read c.args.device.now.slots.items c.args.slot c.index.result.now c.requires.slot c.index.ensures k in
    let m = ap (λ x. x * c.args.device.now.percent) e in
    let h = all k in omega arith))))
