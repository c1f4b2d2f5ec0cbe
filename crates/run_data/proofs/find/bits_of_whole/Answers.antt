use Rattle.std.proofs.Common.{◌-◌, Some, ap, ◌∙◌, arith}
use Rattle.std.proofs.lemmas.Int.{ints, to_z-of_z}
use Rattle.std.specs.Int.RustNames.{unsigned_abs}
use Rattle.run_data.proofs.Numbers.{natural, negative}
use Rattle.run_data.proofs.find.bits_of_whole.Goals as goal

pub returns-then-size-numbers : goal.returns-then-size-numbers
returns-then-size-numbers c =
    let is = c.unsigned_abs-size.ensures.value ∙ ap unsigned_abs (to_z-of_z _ c.args.whole c.ranges.whole) in
    natural c.args.bits c.args.whole c.unsigned_abs-size.result (omega (arith, ints)) is (omega arith)

pub returns : goal.returns
returns c =
    let numbers = c.numbers_of-numbers.ensures.value in
    let size = c.unsigned_abs-size.result in
    let is = c.unsigned_abs-size.ensures.value ∙ ap unsigned_abs (to_z-of_z _ c.args.whole c.ranges.whole) in
    ap (λ n. Some (n - size)) numbers ∙ negative c.args.bits c.args.whole size (omega (arith, ints)) is (omega arith) (rw (← numbers) (omega arith))
