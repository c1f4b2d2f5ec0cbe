use Rattle.std.proofs.Common.{◌∙◌}
use Rattle.sim_tape.specs.Tape.{number_at}
use Rattle.sim_tape.proofs.Growing.{solved_on}
use Rattle.sim_gates.proofs.Pairs.{single, part_says}
use Rattle.sim_gates.proofs.atoms.cut_part.Goals as goal

pub returns-clause-says : goal.returns-clause-says
returns-clause-says c = λ cells ns h.
    let at_mask = solved_on _ _ c.in_ok-cut.ensures.extends cells ns h in
    let at_shift = solved_on _ _ c.in_ok-mask.ensures.extends cells ns at_mask in
    single _ c.in_ok-cut.ensures.extends.new_tape cells ns h c.in_ok-cut.cut
    ∙ part_says (number_at ns c.args.slot) (number_at ns c.in_ok-shift.shift) (number_at ns c.in_ok-mask.mask) c.args.low c.args.bits (number_at ns c.in_ok-cut.cut)
    (c.in_ok-cut.ensures.says cells ns h) (c.in_ok-shift.ensures.says cells ns at_shift ∙ c.from.ensures) (c.in_ok-mask.ensures.says cells ns at_mask ∙ c.mask_of.ensures)
