use Rattle.sim_tape.specs.Tape.{number_at}
use Rattle.sim_tape.proofs.Growing.{solved_on}
use Rattle.sim_gates.proofs.Pairs.{gates_say}
use Rattle.sim_gates.proofs.binary.two_gates.Goals as goal

pub returns-clause-says : goal.returns-clause-says
returns-clause-says c = λ cells ns h.
    let at_low = solved_on _ _ c.in_ok-high.ensures.extends cells ns h in
    gates_say c.args.bits c.args.op c.narrow-by.result c.narrow-by.result cells ns c.args.left c.args.right (number_at ns 0) (number_at ns 0) c.in_ok-low.low c.in_ok-high.high c.requires.bitwise
    c.narrow-by.ensures c.narrow-by.ensures (h.words c.args.left.low) (h.words c.args.right.low) (c.in_ok-low.ensures.says cells ns at_low) (c.in_ok-high.ensures.says cells ns h)
