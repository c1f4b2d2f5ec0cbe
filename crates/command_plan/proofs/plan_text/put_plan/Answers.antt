use Rattle.std.proofs.Common.{ℕ, List, refl, subst}
use Rattle.std.specs.Prelude.{Vec}
use Rattle.std.specs.Io.KnownBytes.{Appends}
use Rattle.std.specs.declared.alloc.Global.{Global}
use Rattle.std.proofs.lemmas.Result.{err_from_is_err_and}
use Rattle.tapa_files.specs.Outside.{AppendsPart}
use Rattle.plan_report.specs.Lines.{texts}
use Rattle.run_data.specs.Lines.{joined, lines_in}
use Rattle.command_plan.proofs.plan_text.put_plan.Goals as goal

pub returns-in_err-lines : goal.returns-in_err-lines
returns-in_err-lines g c =
    let p = err_from_is_err_and c.from_residual.result c.from_residual.ensures.1 in
    rw (p.1, p.2) refl

pub returns-in_err-put_lines : goal.returns-in_err-put_lines
returns-in_err-put_lines g c =
    let p = err_from_is_err_and c.from_residual-in_err-put_lines.result c.from_residual-in_err-put_lines.ensures.1 in
    rw (p.1, p.2) (
      c.in_err-put_lines.ensures.fault,
      (
        joined (texts c.in_ok-lines.lines.items),
        (texts c.in_ok-lines.lines.items, c.in_ok-lines.ensures, refl),
        subst (λ (l : List (Vec ℕ Global)). AppendsPart (g.O.Sink.contents c.args.out.now) (g.O.Sink.contents c.put_lines.new.err) (joined (lines_in l))) c.deref.ensures.value c.in_err-put_lines.ensures.part,
      ),
    )

pub returns : goal.returns
returns g c = (
  joined (texts c.in_ok-lines.lines.items),
  (texts c.in_ok-lines.lines.items, c.in_ok-lines.ensures, refl),
  subst (λ (l : List (Vec ℕ Global)). Appends (g.O.Sink.contents c.args.out.now) (g.O.Sink.contents c.put_lines.new.err) (joined (lines_in l))) c.deref.ensures.value c.in_ok-put_lines.ensures.whole,
)
