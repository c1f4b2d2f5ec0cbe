use Rattle.std.proofs.Common.{◌∷◌, ◌++◌, []}
use Rattle.std.specs.Prelude.{decimal}
use Rattle.vcd_text.proofs.Common.{then_err}
use Rattle.vcd_text.proofs.Sequences.{two_next}
use Rattle.vcd_text.proofs.change.cycle_at.Goals as goal

pub returns-clause-stop : goal.returns-clause-stop
returns-clause-stop c = then_err _ _ c.number_end.result (λ left p. two_next (35 ∷ []) (decimal c.args.cycle ++ 10 ∷ []) c.in_ok-rest.rest.now c.args.text.now left c.in_ok-rest.ensures.found p) c.number_end.ensures.stop
