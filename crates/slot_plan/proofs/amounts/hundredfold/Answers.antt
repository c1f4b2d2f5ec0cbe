use Rattle.std.proofs.Common.{get_or, arith}
use Rattle.slot_plan.proofs.Uses.{amount_or, amount_times, amounts_below, no_use}
use Rattle.slot_plan.proofs.amounts.hundredfold.Goals as goal

pub multiple-requires-clause-small : goal.multiple-requires-clause-small
multiple-requires-clause-small c = amounts_below _ _ (λ k. (let a = amount_or c.args.uses.now c.args.i no_use c.requires.inside k in let b = c.requires.small k in omega arith))

pub returns-clause-value : goal.returns-clause-value
returns-clause-value c = λ k.
    (let a = amount_or c.args.uses.now c.args.i no_use c.requires.inside k in
    let s = amount_times (get_or c.args.uses.now c.args.i no_use) c.multiple.result 100 c.multiple.ensures k in omega arith)

pub returns-clause-small : goal.returns-clause-small
returns-clause-small c = λ k.
    (let a = amount_or c.args.uses.now c.args.i no_use c.requires.inside k in
    let s = amount_times (get_or c.args.uses.now c.args.i no_use) c.multiple.result 100 c.multiple.ensures k in
    let b = c.requires.small k in omega arith)
