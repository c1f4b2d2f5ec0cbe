use Rattle.sim_tape.proofs.Growing.{solved_on}
use Rattle.sim_gates.proofs.Pairs.{halves_are}
use Rattle.sim_gates.proofs.atoms.literal.Goals as goal

pub returns-clause-says : goal.returns-clause-says
returns-clause-says c = λ cells ns h.
    let before = solved_on _ _ c.in_ok-high.ensures.extends cells ns h in
    let low = c.in_ok-low.ensures.says cells ns before in
    let high = c.in_ok-high.ensures.says cells ns h in
    halves_are ns c.args.n c.in_ok-low.low c.in_ok-high.high low high
