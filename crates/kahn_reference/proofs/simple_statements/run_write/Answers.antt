use Rattle.std.proofs.Common.{◌∙◌}
use Rattle.std.proofs.lemmas.Result.{err_from_is_err_and}
use Rattle.kahn_reference.proofs.Kept.{stays}
use Rattle.kahn_reference.proofs.simple_statements.run_write.Goals as goal

pub returns-in_err-m-clause-cause : goal.returns-in_err-m-clause-cause
returns-in_err-m-clause-cause c =
    let p = err_from_is_err_and c.from_residual.result c.from_residual.ensures.1 in rw (p.1, p.2) (λ K w g. c.in_err-m.ensures.cause K (K.streams c.args.p) w g)

pub returns-in_ok-note-in-Given-clause-fits : goal.returns-in_ok-note-in-Given-clause-fits
returns-in_ok-note-in-Given-clause-fits c =
    λ K w g. stays K c.args.run.now.state c.note.new.run.state (c.in_ok-note-in-Given.ensures.state ∙ c.in_ok-m.ensures.state) g.state
