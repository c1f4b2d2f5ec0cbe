use Rattle.std.proofs.Common.{◌∷◌, []}
use Rattle.vcd_text.specs.Dump.{identifier}
use Rattle.vcd_text.proofs.Common.{exit_err, then_err}
use Rattle.vcd_text.proofs.Sequences.{two_first, two_next}
use Rattle.vcd_text.proofs.change.line_end.Goals as goal

pub returns-in_err-rest-clause-stop : goal.returns-in_err-rest-clause-stop
returns-in_err-rest-clause-stop c = exit_err _ c.from_residual.result _ c.from_residual.ensures.1 (two_first (identifier c.args.number) (10 ∷ []) c.args.text.now _ c.in_err-rest.ensures.stop)

pub returns-clause-stop : goal.returns-clause-stop
returns-clause-stop c = then_err _ _ c.expect.result (λ left p. two_next (identifier c.args.number) (10 ∷ []) c.in_ok-rest.rest.now c.args.text.now left c.in_ok-rest.ensures.found p) c.expect.ensures.stop
