use Rattle.std.proofs.Common.{◌∙◌}
use Rattle.sim_tape.specs.Tape.{number_at}
use Rattle.sim_gates.proofs.ReadParts.{all_bits}
use Rattle.sim_gates.proofs.Pairs.{single}
use Rattle.sim_gates.proofs.atoms.short_part.Goals as goal

pub returns-clause-says : goal.returns-clause-says
returns-clause-says c = λ cells ns h.
    single _ c.requires.tape cells ns h c.args.slot ∙ all_bits (number_at ns c.args.slot) c.args.low c.args.bits (h.words c.args.slot) c.if-low-ne0.false c.if-bits-ne64.false
