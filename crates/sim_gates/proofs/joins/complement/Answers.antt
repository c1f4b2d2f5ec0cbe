use Rattle.std.proofs.Common.{◌∙◌}
use Rattle.sim_tape.specs.Tape.{number_at}
use Rattle.sim_tape.proofs.Growing.{solved_on}
use Rattle.sim_gates.proofs.Pairs.{complement_says}
use Rattle.sim_gates.proofs.joins.complement.Goals as goal

pub returns-clause-says : goal.returns-clause-says
returns-clause-says c = λ cells ns h fits.
    let at_mask = solved_on _ _ c.in_ok-less.ensures.extends cells ns h in
    complement_says (number_at ns c.args.slot) c.args.bits (number_at ns c.in_ok-mask.mask) (number_at ns c.in_ok-less.less) (c.in_ok-less.ensures.says cells ns h)
    (c.in_ok-mask.ensures.says cells ns at_mask ∙ c.mask_of.ensures) c.requires.bits fits
