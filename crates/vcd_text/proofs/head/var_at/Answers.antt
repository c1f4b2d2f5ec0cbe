use Rattle.vcd_text.proofs.Common.{exit_err}
use Rattle.vcd_text.proofs.Heads.{var_begin, var_then}
use Rattle.vcd_text.proofs.head.var_at.Goals as goal

pub returns-in_err-rest-clause-stop : goal.returns-in_err-rest-clause-stop
returns-in_err-rest-clause-stop c = exit_err _ c.from_residual.result _ c.from_residual.ensures.1 (var_begin c.args.nets.now c.args.number c.args.text.now _ c.in_err-rest.ensures.stop)

pub returns-in_err-net-clause-stop : goal.returns-in_err-net-clause-stop
returns-in_err-net-clause-stop c = exit_err _ c.from_residual-in_err-net.result _ c.from_residual-in_err-net.ensures.1
    (var_then c.args.nets.now c.args.number c.in_ok-rest.rest.now c.args.text.now _ c.in_ok-rest.ensures.found c.in_err-net.ensures.stop)
