use Rattle.std.proofs.Common.{◌*◌, ℕ, get_or, arith, ap}
use Rattle.std.proofs.lemmas.Nat.{mul-le}
use Rattle.task_graph.specs.Streams.{amount_at}
use Rattle.slot_plan.proofs.Uses.{amount_or, amount_times, amounts_below, amounts_at_most, amount_left, no_use}
use Rattle.slot_plan.proofs.amounts.room_beside.Goals as goal

pub multiple-requires-clause-small : goal.multiple-requires-clause-small
multiple-requires-clause-small c = amounts_below _ _ (λ k. (let a = amount_or c.args.slots.now c.args.slot no_use c.requires.inside k in let b = c.requires.capacities k in omega arith))

pub multiple-requires-2-clause-small : goal.multiple-requires-2-clause-small
multiple-requires-2-clause-small c = amounts_below _ _ (λ k.
    (let a = amount_or c.args.used.now c.args.slot no_use c.requires.used k in
    let b = c.requires.capacities k in
    let w = c.requires.within k in
    let m = mul-le (amount_at c.args.slots.now c.args.slot k) c.args.percent 1099511627775 100 (omega arith) c.requires.percent in
    omega arith))

pub difference-requires : goal.difference-requires
difference-requires c = amounts_at_most _ _ (λ k.
    (let a = amount_or c.args.slots.now c.args.slot no_use c.requires.inside k in
    let b = amount_or c.args.used.now c.args.slot no_use c.requires.used k in
    let s = amount_times (get_or c.args.slots.now c.args.slot no_use) c.multiple.result c.args.percent c.multiple.ensures k in
    let u = amount_times (get_or c.args.used.now c.args.slot no_use) c.multiple-2.result 100 c.multiple-2.ensures k in
    let m = ap (λ (x : ℕ). x * c.args.percent) a in
    let w = c.requires.within k in
    omega arith))

pub returns : goal.returns
returns c = λ k.
    (let a = amount_or c.args.slots.now c.args.slot no_use c.requires.inside k in
    let b = amount_or c.args.used.now c.args.slot no_use c.requires.used k in
    let s = amount_times (get_or c.args.slots.now c.args.slot no_use) c.multiple.result c.args.percent c.multiple.ensures k in
    let u = amount_times (get_or c.args.used.now c.args.slot no_use) c.multiple-2.result 100 c.multiple-2.ensures k in
    let m = ap (λ (x : ℕ). x * c.args.percent) a in
    let l = amount_left c.multiple.result c.multiple-2.result c.difference.result
    (amounts_at_most _ _ (λ i.
    (let a' = amount_or c.args.slots.now c.args.slot no_use c.requires.inside i in
    let b' = amount_or c.args.used.now c.args.slot no_use c.requires.used i in
    let s' = amount_times (get_or c.args.slots.now c.args.slot no_use) c.multiple.result c.args.percent c.multiple.ensures i in
    let u' = amount_times (get_or c.args.used.now c.args.slot no_use) c.multiple-2.result 100 c.multiple-2.ensures i in
    let m' = ap (λ (x : ℕ). x * c.args.percent) a' in
    let w' = c.requires.within i in
    omega arith)))
    c.difference.ensures k in
    omega arith)
