use Rattle.vcd_text.proofs.Common.{exit_err}
use Rattle.vcd_text.proofs.Heads.{name_first, name_next}
use Rattle.vcd_text.proofs.head.from_name.Goals as goal

pub returns-in_err-name-clause-stop : goal.returns-in_err-name-clause-stop
returns-in_err-name-clause-stop c = exit_err _ c.from_residual.result _ c.from_residual.ensures.1 (name_first c.args.nets.now c.args.text.now _ c.in_err-name.ensures.stop)

pub returns-in_err-behind-clause-stop : goal.returns-in_err-behind-clause-stop
returns-in_err-behind-clause-stop c = exit_err _ c.from_residual-in_err-behind.result _ c.from_residual-in_err-behind.ensures.1
    (name_next c.args.nets.now c.in_ok-name.name.now c.in_ok-name.rest.now c.args.text.now _ c.in_ok-name.ensures.found.0 c.in_ok-name.ensures.found.1 c.in_err-behind.ensures.stop)
