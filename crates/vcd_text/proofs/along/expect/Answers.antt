use Rattle.std.proofs.Common.{◌≡◌, ◌<◌, ◌++◌, length, drop, sym, ap, ◌∙◌, arith}
use Rattle.std.proofs.lemmas.List.{take_rest}
use Rattle.vcd_text.specs.Along.{common}
use Rattle.vcd_text.proofs.Common.{common_whole, common_within, common_below, stops_one}
use Rattle.vcd_text.proofs.along.expect.Goals as goal

pub slice_bounds-result-count : goal.slice_bounds-result-count
slice_bounds-result-count c = omega (arith, c.along-count.ensures, common_below c.args.word.now c.args.text.now)

pub slice_bounds-result-start : goal.slice_bounds-result-start
slice_bounds-result-start c = omega (arith, c.along-count.ensures, common_below c.args.word.now c.args.text.now)

pub overflow_sub-result : goal.overflow_sub-result
overflow_sub-result c = omega (arith, c.along-count.ensures, common_below c.args.word.now c.args.text.now)

pub returns-then-count-word-clause-found : goal.returns-then-count-word-clause-found
returns-then-count-word-clause-found c =
    let w = c.args.word.now in
    let z = c.args.text.now in
    let n = c.along-count.result in
    let full : n ≡ length w = c.if-count-word.true in
    common_whole w z (sym c.along-count.ensures ∙ full) ∙ ap (λ l. w ++ l) (ap (λ m. drop m z) (sym full) ∙ sym (take_rest z n))

pub returns-else-count-word-clause-stop : goal.returns-else-count-word-clause-stop
returns-else-count-word-clause-stop c =
    let w = c.args.word.now in
    let z = c.args.text.now in
    let n = c.along-count.result in
    let same : n ≡ common w z = c.along-count.ensures in
    let less : common w z < length w = omega (arith, same, c.if-count-word.false, common_within w z) in
    (common w z, omega (arith, same, common_below w z), stops_one w z less)
