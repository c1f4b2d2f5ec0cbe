use Rattle.std.proofs.Common.{◌/◌, ◌^◌, ap, ◌∙◌}
use Rattle.sim_tape.specs.Tape.{pair_value}
use Rattle.sim_tape.proofs.Growing.{solved_on}
use Rattle.sim_gates.proofs.Pairs.{nothing, long_says}
use Rattle.sim_gates.proofs.atoms.long_part.Goals as goal

pub returns-clause-says : goal.returns-clause-says
returns-clause-says c = λ cells ns h.
    let at_shifted = solved_on _ _ c.in_ok-cut.ensures.extends cells ns h in
    let at_shift = solved_on _ _ c.in_ok-shifted.ensures.extends cells ns at_shifted in
    let by = c.in_ok-shift.ensures.says cells ns at_shift ∙ c.from.ensures in
    long_says (pair_value ns c.args.pair) c.args.low c.args.bits (pair_value ns c.in_ok-shifted.shifted) (pair_value ns (record { low = 0; high = 0 })) (pair_value ns c.in_ok-cut.cut)
    (c.in_ok-cut.ensures.says cells ns h) (c.in_ok-shifted.ensures.says cells ns at_shifted ∙ ap (λ k. pair_value ns c.args.pair / 2 ^ k) by)
    (nothing _ c.in_ok-cut.ensures.extends.new_tape cells ns h)
