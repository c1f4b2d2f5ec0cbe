use Rattle.std.proofs.lemmas.Result.{err_from_is_err_and}
use Rattle.command_source.proofs.Shapes.{unfit_data}
use Rattle.command_source.proofs.files.given_by.Goals as goal

pub returns-in_err-given-clause-refused : goal.returns-in_err-given-clause-refused
returns-in_err-given-clause-refused c =
    let p = err_from_is_err_and c.from_residual.result c.from_residual.ensures.1 in
    rw (p.1, p.2) (unfit_data c.args.shape.now c.args.text.now c.in_err-given.field-0.0 c.in_err-given.ensures.cause)
