use Rattle.std.proofs.Common.{◌<◌, ◌≤◌, length, arith}
use Rattle.slot_plan.specs.Tables.{items}
use Rattle.slot_plan.proofs.Lowered.{rows_more, row_low, below_all_rows}
use Rattle.slot_plan.proofs.rows.lower_rows.Goals as goal

pub lower_row-low-requires-clause-low : goal.lower_row-low-requires-clause-low
lower_row-low-requires-clause-low c = λ y l.
    let t = c.args.tables.now in
    let a : length c.args.placed.now ≤ c.loop-other.other = (let b = c.loop-other.auto.other in omega arith) in
    let e : c.loop-other.other < items t = (let k = t.needs.ok.0 in let b = c.loop-other-test.true in let d = c.len-other-end.ensures in omega arith) in
    row_low t c.args.placed.now c.args.rows.now c.loop-other.other y c.requires.tables c.requires.rows c.requires.more a e l

pub loop-other-preserved : goal.loop-other-preserved
loop-other-preserved c =
    let t = c.args.tables.now in
    let a : length c.args.placed.now < c.loop-other.other = (let b = c.loop-other.auto.other in omega arith) in
    let e : c.loop-other.other < items t = (let k = t.needs.ok.0 in let b = c.loop-other-test.true in let d = c.len-other-end.ensures in omega arith) in
    rows_more t c.args.placed.now c.args.rows.now c.loop-other.next c.args.place c.loop-other.other c.loop-other.low c.lower_row-low.new.next c.lower_row-low.result
    c.requires.rows c.loop-other.invariant a e
    (let b = c.lower_row-low.auto.next in let d = c.loop-other.invariant.long in omega arith)
    c.lower_row-low.ensures.row c.lower_row-low.ensures.others c.lower_row-low.ensures.least c.lower_row-low.ensures.small

pub returns-clause-low : goal.returns-clause-low
returns-clause-low c =
    let t = c.args.tables.now in
    below_all_rows t c.args.placed.now c.loop-other.next c.args.place c.loop-other.other c.loop-other.low c.loop-other.invariant
    (let k = t.needs.ok.0 in let b = c.loop-other-test.false in let d = c.len-other-end.ensures in let o = c.loop-other.auto.other-end in let m = c.requires.more in omega arith)
