use Rattle.std.proofs.Common.{ℕ, List, ap, subst}
use Rattle.std.specs.Prelude.{Vec}
use Rattle.std.specs.Io.KnownBytes.{Appends}
use Rattle.std.specs.declared.alloc.Global.{Global}
use Rattle.std.proofs.lemmas.Result.{err_from_is_err_and}
use Rattle.tapa_files.specs.Outside.{AppendsPart}
use Rattle.run_data.specs.Lines.{joined, lines_in}
use Rattle.command_answers.specs.Ends.{Done, Unwritten, NoMemory}
use Rattle.command_answers.specs.Meaning.{end_at}
use Rattle.command_answers.specs.Outside.{written}
use Rattle.command_gen.proofs.Carried.{no_network, not_summed, summed}
use Rattle.command_gen.proofs.network.put_network.Goals as goal

pub returns-in_err-program : goal.returns-in_err-program
returns-in_err-program g c = λ store.
    (let p = err_from_is_err_and c.from_residual.result c.from_residual.ensures.1 in
    rw (p.1, p.2) (no_network c.args.layers store (written g.O.Sink c.args.out.now) (end_at c.in_err-program.field-0.0) c.in_err-program.ensures.refused))

pub returns-in_err-summary : goal.returns-in_err-summary
returns-in_err-summary g c = λ store.
    (let p = err_from_is_err_and c.from_residual-in_err-summary.result c.from_residual-in_err-summary.ensures.1 in
    rw (p.1, p.2) (not_summed c.args.layers store (written g.O.Sink c.args.out.now) c.in_ok-program.program c.in_ok-program.ensures.means (end_at c.in_err-summary.field-0.0) c.in_err-summary.ensures.refused))

pub returns-in_err-lines : goal.returns-in_err-lines
returns-in_err-lines g c = λ store.
    (let p = err_from_is_err_and c.from_residual-in_err-lines.result c.from_residual-in_err-lines.ensures.1 in
    rw (p.1, p.2) (not_summed c.args.layers store (written g.O.Sink c.args.out.now) c.in_ok-program.program c.in_ok-program.ensures.means NoMemory tt))

pub returns-in_err-put_lines : goal.returns-in_err-put_lines
returns-in_err-put_lines g c = λ store.
    (let p = err_from_is_err_and c.from_residual-in_err-put_lines.result c.from_residual-in_err-put_lines.ensures.1 in
    rw (p.1, p.2) (summed c.args.layers store (written g.O.Sink c.args.out.now) c.in_ok-program.program c.in_ok-program.ensures.means c.in_ok-summary.summary c.in_ok-summary.ensures.is (written g.O.Sink c.put_lines.new.err) Unwritten (
      c.in_err-put_lines.ensures.fault,
      (
        joined (lines_in c.in_ok-lines.lines.items),
        ap joined c.in_ok-lines.ensures,
        subst (λ (l : List (Vec ℕ Global)). AppendsPart (g.O.Sink.contents c.args.out.now) (g.O.Sink.contents c.put_lines.new.err) (joined (lines_in l))) c.deref.ensures.value c.in_err-put_lines.ensures.part,
      ),
    )))

pub returns : goal.returns
returns g c = λ store.
    summed c.args.layers store (written g.O.Sink c.args.out.now) c.in_ok-program.program c.in_ok-program.ensures.means c.in_ok-summary.summary c.in_ok-summary.ensures.is (written g.O.Sink c.put_lines.new.err) Done (
      joined (lines_in c.in_ok-lines.lines.items),
      ap joined c.in_ok-lines.ensures,
      subst (λ (l : List (Vec ℕ Global)). Appends (g.O.Sink.contents c.args.out.now) (g.O.Sink.contents c.put_lines.new.err) (joined (lines_in l))) c.deref.ensures.value c.in_ok-put_lines.ensures.whole,
    )
