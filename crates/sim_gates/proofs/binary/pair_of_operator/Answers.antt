use Rattle.sim_gates.proofs.binary.pair_of_operator.Goals as goal

pub returns-then-is_narrow-clause-says : goal.returns-then-is_narrow-clause-says
returns-then-is_narrow-clause-says c = λ cells ns h fits minus.
    let f = fits c.if-is_narrow.true in
    c.in_ok-one.ensures.says cells ns h f.0 f.1 minus

pub returns-then-is_bitwise-clause-says : goal.returns-then-is_bitwise-clause-says
returns-then-is_bitwise-clause-says c = λ cells ns h fits minus. c.in_ok-two.ensures.says cells ns h

pub returns-clause-says : goal.returns-clause-says
returns-clause-says c = λ cells ns h fits minus. c.in_ok-wide.ensures.says cells ns h
