use Rattle.std.proofs.Common.{◌≡◌, ◌∙◌, ap, refl, subst}
use Rattle.std.specs.Arc.{arc_value}
use Rattle.run_data.specs.Lines.{lines_in}
use Rattle.run_program.specs.Run.{StoppedRun, LimitRun}
use Rattle.net_core.specs.Bounded.{Values, values_of}
use Rattle.run_program.specs.Totals.{IsTotalled, TotalsEndSo}
use Rattle.run_program.specs.declared.totals.TotalsEnd.{TotalsEnd}
use Rattle.tapa_words.specs.Words.{default_limit}
use Rattle.command_gen.specs.Nothing.{no_values}
use Rattle.command_gen.proofs.Nothings.{input_fits}
use Rattle.command_gen.proofs.summary.totals_of.Goals as goal

pub run_totals-requires-clause-fits : goal.run_totals-requires-clause-fits
run_totals-requires-clause-fits g c κs within =
    input_fits (arc_value c.args.program.now) (arc_value c.in-Ok.input) (ap values_of c.in-Ok.ensures.ok ∙ c.in_ok-input.ensures ∙ ap no_values c.deref.ensures)

pub returns-in-Done-clause-run : goal.returns-in-Done-clause-run
returns-in-Done-clause-run g c =
    let same : values_of (arc_value c.in-Ok.input) ≡ no_values (arc_value c.args.program.now) = ap values_of c.in-Ok.ensures.ok ∙ c.in_ok-input.ensures ∙ ap no_values c.deref.ensures in
    subst (λ (v : Values). IsTotalled (arc_value c.args.program.now) v default_limit c.in-Done.totals) same
    (subst (λ (end : TotalsEnd). TotalsEndSo (arc_value c.args.program.now) (values_of (arc_value c.in-Ok.input)) default_limit end) c.in-Done.is c.in_ok-totals.ensures)

pub returns-in-Stopped-clause-refused : goal.returns-in-Stopped-clause-refused
returns-in-Stopped-clause-refused g c =
    let same : values_of (arc_value c.in-Ok.input) ≡ no_values (arc_value c.args.program.now) = ap values_of c.in-Ok.ensures.ok ∙ c.in_ok-input.ensures ∙ ap no_values c.deref.ensures in
    let stopped = subst (λ (end : TotalsEnd). TotalsEndSo (arc_value c.args.program.now) (values_of (arc_value c.in-Ok.input)) default_limit end) c.in-Stopped.is c.in_ok-totals.ensures in
    (stopped.0, subst (λ (v : Values). StoppedRun (arc_value c.args.program.now) v default_limit stopped.0 (lines_in c.in-Stopped.lines.items)) same stopped.1)

pub returns-clause-refused : goal.returns-clause-refused
returns-clause-refused g c =
    let same : values_of (arc_value c.in-Ok.input) ≡ no_values (arc_value c.args.program.now) = ap values_of c.in-Ok.ensures.ok ∙ c.in_ok-input.ensures ∙ ap no_values c.deref.ensures in (
      refl,
      subst (λ (v : Values). LimitRun (arc_value c.args.program.now) v default_limit) same
          (subst (λ (end : TotalsEnd). TotalsEndSo (arc_value c.args.program.now) (values_of (arc_value c.in-Ok.input)) default_limit end) c.in-Limit.is c.in_ok-totals.ensures),
    )
