use Rattle.std.proofs.Common.{cond, ap, ◌∙◌}
use Rattle.sim_tape.specs.Tape.{number_at}
use Rattle.std.specs.Prelude.{◌==◌}
use Rattle.sim_gates.proofs.Pairs.{same_choice}
use Rattle.sim_gates.proofs.joins.choose_half.Goals as goal

pub returns-then-yes-no-clause-says : goal.returns-then-yes-no-clause-says
returns-then-yes-no-clause-says c = λ cells ns h.
    same_choice (number_at ns c.args.test == 1) (number_at ns c.args.yes) ∙ ap (λ k. cond (number_at ns c.args.test == 1) (number_at ns c.args.yes) (number_at ns k)) c.if-yes-no.true
