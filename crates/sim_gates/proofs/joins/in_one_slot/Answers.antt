use Rattle.std.proofs.Common.{◌^◌, ◌∙◌}
use Rattle.sim_tape.specs.Tape.{number_at, pair_value}
use Rattle.sim_tape.proofs.Growing.{solved_on}
use Rattle.sim_gates.proofs.Pairs.{single, low_is, join_says}
use Rattle.sim_gates.proofs.ReadParts.{parts_low}
use Rattle.sim_gates.proofs.joins.in_one_slot.Goals as goal

pub returns-clause-says : goal.returns-clause-says
returns-clause-says c = λ cells ns h fits.
    let at_shift = solved_on _ _ c.in_ok-low.ensures.extends cells ns h in
    let small = parts_low (pair_value ns c.args.above) c.args.below_bits (pair_value ns c.args.below) (2 ^ 64) fits in
    single _ c.in_ok-low.ensures.extends.new_tape cells ns h c.in_ok-low.low
    ∙ join_says (pair_value ns c.args.above) c.args.below_bits (pair_value ns c.args.below) (number_at ns c.args.above.low) (number_at ns c.in_ok-shift.shift) (number_at ns c.args.below.low)
    (number_at ns c.in_ok-low.low) (c.in_ok-low.ensures.says cells ns h) (low_is ns c.args.above small.0) (c.in_ok-shift.ensures.says cells ns at_shift ∙ c.from.ensures) (low_is ns c.args.below small.1) fits
