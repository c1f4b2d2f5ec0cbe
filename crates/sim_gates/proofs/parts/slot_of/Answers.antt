use Rattle.std.specs.Prelude.{◌==◌}
use Rattle.sim_tape.specs.Tape.{number_at}
use Rattle.sim_tape.proofs.Growing.{zero_says}
use Rattle.sim_gates.proofs.Walking.{off_says, on_says}
use Rattle.sim_gates.proofs.parts.slot_of.Goals as goal

pub returns-then-part-clause-says : goal.returns-then-part-clause-says
returns-then-part-clause-says c = λ cells ns h.
    let p = c.args.part in
    off_says p.is_else (number_at ns p.test == 1) (number_at ns 0) (number_at ns p.around) (number_at ns c.in_ok-off.off) c.if-part.true
    (zero_says _ c.in_ok-off.ensures.extends.new_tape cells ns h) (c.in_ok-off.ensures.says cells ns h)

pub returns-clause-says : goal.returns-clause-says
returns-clause-says c = λ cells ns h.
    let p = c.args.part in
    on_says p.is_else (number_at ns p.test == 1) (number_at ns 0) (number_at ns p.around) (number_at ns c.in_ok-on.on) c.if-part.false
    (zero_says _ c.in_ok-on.ensures.extends.new_tape cells ns h) (c.in_ok-on.ensures.says cells ns h)
