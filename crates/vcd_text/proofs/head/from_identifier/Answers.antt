use Rattle.vcd_text.proofs.Common.{exit_err}
use Rattle.vcd_text.proofs.Heads.{identifier_first, identifier_then}
use Rattle.vcd_text.proofs.head.from_identifier.Goals as goal

pub returns-in_err-rest-clause-stop : goal.returns-in_err-rest-clause-stop
returns-in_err-rest-clause-stop c = exit_err _ c.from_residual.result _ c.from_residual.ensures.1 (identifier_first c.args.nets.now c.args.number c.args.text.now _ c.in_err-rest.ensures.stop)

pub returns-in_err-name-clause-stop : goal.returns-in_err-name-clause-stop
returns-in_err-name-clause-stop c = exit_err _ c.from_residual-in_err-name.result _ c.from_residual-in_err-name.ensures.1
    (identifier_then c.args.nets.now c.args.number c.in_ok-rest.rest.now c.args.text.now _ c.in_ok-rest.ensures.found c.in_err-name.ensures.stop)
