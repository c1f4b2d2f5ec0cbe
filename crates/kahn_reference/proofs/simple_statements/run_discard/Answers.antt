use Rattle.std.proofs.lemmas.Result.{err_from_is_err_and}
use Rattle.kahn_reference.proofs.Kept.{stays}
use Rattle.kahn_reference.proofs.simple_statements.run_discard.Goals as goal

pub returns-in_err-m-clause-cause : goal.returns-in_err-m-clause-cause
returns-in_err-m-clause-cause c =
    let p = err_from_is_err_and c.from_residual.result c.from_residual.ensures.1 in rw (p.1, p.2) (λ K w g. c.in_err-m.ensures.cause K w.0 w.1 g)

pub returns-in-Given-clause-fits : goal.returns-in-Given-clause-fits
returns-in-Given-clause-fits c =
    λ K w g. stays K c.args.run.now.state c.run_expr.new.run.state c.in_ok-m.ensures.state g.state
