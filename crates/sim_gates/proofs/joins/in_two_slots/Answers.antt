use Rattle.std.proofs.Common.{◌∙◌}
use Rattle.sim_tape.specs.Tape.{pair_value}
use Rattle.sim_tape.proofs.Growing.{solved_on}
use Rattle.sim_gates.proofs.Pairs.{wide_join_says}
use Rattle.sim_gates.proofs.joins.in_two_slots.Goals as goal

pub returns-clause-says : goal.returns-clause-says
returns-clause-says c = λ cells ns h fits.
    let at_moved = solved_on _ _ c.in_ok-sum.ensures.extends cells ns h in
    let at_shift = solved_on _ _ c.in_ok-moved.ensures.extends cells ns at_moved in
    wide_join_says (pair_value ns c.args.above) c.args.below_bits (pair_value ns c.args.below) c.args.bits (pair_value ns c.in_ok-shift.shift) (pair_value ns c.in_ok-moved.moved) (pair_value ns c.in_ok-sum.sum)
    (c.in_ok-sum.ensures.says cells ns h) (c.in_ok-moved.ensures.says cells ns at_moved) (c.in_ok-shift.ensures.says cells ns at_shift ∙ c.from.ensures) fits
