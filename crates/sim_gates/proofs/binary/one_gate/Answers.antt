use Rattle.std.proofs.Common.{◌∙◌}
use Rattle.sim_tape.specs.Tape.{number_at, pair_value}
use Rattle.sim_tape.proofs.Growing.{solved_on}
use Rattle.sim_gates.proofs.Pairs.{single, low_is, gate_says}
use Rattle.sim_gates.proofs.binary.one_gate.Goals as goal

pub returns-clause-says : goal.returns-clause-says
returns-clause-says c = λ cells ns h left right minus.
    let at_mask = solved_on _ _ c.in_ok-low.ensures.extends cells ns h in
    single _ c.in_ok-low.ensures.extends.new_tape cells ns h c.in_ok-low.low
    ∙ gate_says c.args.bits c.args.op c.narrow.result cells (number_at ns c.args.left.low) (number_at ns c.args.right.low) (pair_value ns c.args.left) (pair_value ns c.args.right)
    (number_at ns c.in_ok-mask.mask) (number_at ns c.in_ok-low.low) c.narrow.ensures (c.in_ok-low.ensures.says cells ns h) (low_is ns c.args.left left) (low_is ns c.args.right right)
    (c.in_ok-mask.ensures.says cells ns at_mask ∙ c.mask_of.ensures) c.requires.bits minus
