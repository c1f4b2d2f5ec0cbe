use Rattle.std.proofs.Common.{get_or, arith}
use Rattle.slot_plan.proofs.Uses.{amount_sum, amount_or, no_use, amounts_below}
use Rattle.slot_plan.proofs.amounts.add_at.Goals as goal

pub sum_of-requires-clause-first : goal.sum_of-requires-clause-first
sum_of-requires-clause-first c = amounts_below _ _ (λ k. (let a = c.requires.first k in omega arith))

pub sum_of-requires-clause-second : goal.sum_of-requires-clause-second
sum_of-requires-clause-second c = amounts_below _ _ (λ k. (let a = amount_or c.args.uses.now c.args.i no_use c.requires.inside k in let b = c.requires.second k in omega arith))

pub returns : goal.returns
returns c = λ k.
    (let a = amount_or c.args.uses.now c.args.i no_use c.requires.inside k in
    let s = amount_sum c.args.sum (get_or c.args.uses.now c.args.i no_use) c.sum_of.result c.sum_of.ensures k in
    omega arith)
