use Rattle.sim_tape.proofs.Growing.{solved_on}
use Rattle.sim_gates.proofs.Pairs.{choice_says}
use Rattle.sim_gates.proofs.joins.choose.Goals as goal

pub returns-clause-says : goal.returns-clause-says
returns-clause-says c = λ cells ns h.
    let at_low = solved_on _ _ c.in_ok-high.ensures.extends cells ns h in
    choice_says ns c.args.test c.args.yes c.args.no c.in_ok-low.low c.in_ok-high.high (c.in_ok-low.ensures.says cells ns at_low) (c.in_ok-high.ensures.says cells ns h)
