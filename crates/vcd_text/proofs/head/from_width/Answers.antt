use Rattle.vcd_text.proofs.Common.{exit_err}
use Rattle.vcd_text.proofs.Heads.{width_begin, width_then}
use Rattle.vcd_text.proofs.head.from_width.Goals as goal

pub returns-in_err-bits-clause-stop : goal.returns-in_err-bits-clause-stop
returns-in_err-bits-clause-stop c = exit_err _ c.from_residual.result _ c.from_residual.ensures.1 (width_begin c.args.nets.now c.args.number c.args.text.now _ c.in_err-bits.ensures.stop)

pub returns-in_err-name-clause-stop : goal.returns-in_err-name-clause-stop
returns-in_err-name-clause-stop c = exit_err _ c.from_residual-in_err-name.result _ c.from_residual-in_err-name.ensures.1
    (width_then c.args.nets.now c.args.number c.in_ok-bits.bits c.in_ok-bits.rest.now c.args.text.now _ c.in_ok-bits.ensures.found.0 c.in_ok-bits.ensures.found.1 c.in_ok-bits.ensures.found.2 c.in_err-name.ensures.stop)
