use Rattle.std.proofs.Common.{◌∙◌, ap, length}
use Rattle.std.specs.Arc.{arc_value}
use Rattle.std.proofs.lemmas.Result.{err_from_is_err_and}
use Rattle.tapa_syntax.specs.declared.program.Program.{Program}
use Rattle.command_answers.specs.Meaning.{end_at}
use Rattle.command_gen.proofs.Summing.{not_run, not_done, summed}
use Rattle.command_gen.proofs.summary.summary_of.Goals as goal

pub returns-in_err-totals-clause-refused : goal.returns-in_err-totals-clause-refused
returns-in_err-totals-clause-refused g c =
    let p = err_from_is_err_and c.from_residual.result c.from_residual.ensures.1 in
    rw (p.1, p.2) (not_run (arc_value c.in-Ok.program) c.args.program c.in-Ok.ensures.ok (end_at c.in_err-totals.field-0.0) c.in_err-totals.ensures.refused)

pub returns-in_err-cycles-clause-refused : goal.returns-in_err-cycles-clause-refused
returns-in_err-cycles-clause-refused g c =
    let p = err_from_is_err_and c.from_residual-in_err-cycles.result c.from_residual-in_err-cycles.ensures.1 in
    rw (p.1, p.2) (not_done (arc_value c.in-Ok.program) c.deref.result.now c.args.program c.in-Ok.ensures.ok (c.deref.ensures ∙ c.in-Ok.ensures.ok) c.in_ok-totals.totals c.in_ok-totals.ensures.run
    (end_at c.in_err-cycles.field-0.0) c.in_err-cycles.ensures.refused)

pub returns-clause-is : goal.returns-clause-is
returns-clause-is g c =
    summed (arc_value c.in-Ok.program) c.deref.result.now c.args.program c.in-Ok.ensures.ok (c.deref.ensures ∙ c.in-Ok.ensures.ok) c.in_ok-totals.totals c.in_ok-totals.ensures.run c.len.result c.len-2.result c.in_ok-cycles.cycles
    (c.len.ensures ∙ c.deref-2.result.now.instances.ok.0 ∙ ap (λ (p : Program). length p.instances.items) (c.deref-2.ensures ∙ c.in-Ok.ensures.ok))
    (c.len-2.ensures ∙ c.deref-3.result.now.streams.ok.0 ∙ ap (λ (p : Program). length p.streams.items) (c.deref-3.ensures ∙ c.in-Ok.ensures.ok)) c.in_ok-cycles.ensures.done
