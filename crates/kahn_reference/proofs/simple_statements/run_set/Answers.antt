use Rattle.std.proofs.lemmas.Result.{err_from_is_err_and}
use Rattle.kahn_reference.proofs.Kept.{given, set_var_fits}
use Rattle.kahn_reference.proofs.simple_statements.run_set.Goals as goal

pub returns-in_err-m-clause-cause : goal.returns-in_err-m-clause-cause
returns-in_err-m-clause-cause c =
    let p = err_from_is_err_and c.from_residual.result c.from_residual.ensures.1 in rw (p.1, p.2) (λ K w g. c.in_err-m.ensures.cause K (K.vars c.args.x) w g)

pub returns-in_ok-set_var_tick-in-Given-clause-fits : goal.returns-in_ok-set_var_tick-in-Given-clause-fits
returns-in_ok-set_var_tick-in-Given-clause-fits c =
    λ K w g.
    set_var_fits K c.args.run.now.state c.run_expr.new.run.state c.set_var_tick.new.run.state c.args.x c.in-Given.v c.in_ok-m.ensures.state c.in_ok-set_var_tick-in-Given.ensures.state g.state
    (given (K.vars c.args.x) c.in_ok-m.field-0 c.in-Given.v c.in-Given.is (c.in_ok-m.ensures.fits K (K.vars c.args.x) w g))
