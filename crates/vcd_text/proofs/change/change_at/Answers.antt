use Rattle.vcd_text.proofs.Common.{exit_err}
use Rattle.vcd_text.proofs.Values.{line_first, line_next}
use Rattle.vcd_text.proofs.change.change_at.Goals as goal

pub returns-in_err-value-clause-stop : goal.returns-in_err-value-clause-stop
returns-in_err-value-clause-stop c = exit_err _ c.from_residual.result _ c.from_residual.ensures.1 (line_first c.args.number c.args.bits c.args.before c.args.text.now _ c.in_err-value.ensures.stop)

pub returns-in_err-behind-clause-stop : goal.returns-in_err-behind-clause-stop
returns-in_err-behind-clause-stop c = exit_err _ c.from_residual-in_err-behind.result _ c.from_residual-in_err-behind.ensures.1
    (line_next c.args.number c.args.bits c.args.before c.in_ok-value.value c.in_ok-value.rest.now c.args.text.now _ c.in_ok-value.ensures.found.0 c.in_ok-value.ensures.found.1 c.in_err-behind.ensures.stop)
