use Rattle.std.proofs.Common.{◌≡◌, ℕ, List, Vec, get_or, sym, ◌∙◌, ap, subst}
use Rattle.std.specs.Io.KnownBytes.{Appends}
use Rattle.std.specs.declared.alloc.Global.{Global}
use Rattle.std.specs.List.{flat_map}
use Rattle.std.proofs.lemmas.List.{take_all}
use Rattle.tapa_files.proofs.Known.{part_of_next}
use Rattle.run_data.specs.Lines.{joined, lines_in}
use Rattle.run_data.proofs.Joining.{lines_next}
use Rattle.command_answers.proofs.Joined.{joined_is}
use Rattle.tapa_base.proofs.Got.{on_err}
use Rattle.command_answers.proofs.report.put_lines.Goals as goal

pub returns-in_err-put_all-clause-part : goal.returns-in_err-put_all-clause-part
returns-in_err-put_all-clause-part g c =
    let item = c.line-item.result in
    let line : c.deref.result.now ≡ (get_or c.args.lines.now c.loop-line.line-index item).items = c.deref.ensures.value ∙ ap (λ (v : Vec ℕ Global). v.items) c.line-item.is in
    on_err c.from_residual.result (part_of_next (g.E.Sink.contents c.args.err.now) (g.E.Sink.contents c.loop-line.err) (g.E.Sink.contents c.put_all.new.sink) (joined (lines_in c.args.lines.now)) _ _ _ (joined_is c.args.lines.now ∙ lines_next (λ (v : Vec ℕ Global). v.items) c.args.lines.now c.loop-line.line-index item c.loop-line-test.true) c.loop-line.invariant.0 (rw line at c.in_err-put_all.ensures.part))

pub returns-clause-whole : goal.returns-clause-whole
returns-clause-whole g c =
    subst (λ (text : List ℕ). Appends (g.E.Sink.contents c.args.err.now) (g.E.Sink.contents c.loop-line.err) text)
    (ap (flat_map (λ (v : Vec ℕ Global). v.items)) (take_all c.loop-line.line-index c.args.lines.now c.loop-line-test.false) ∙ sym (joined_is c.args.lines.now)) c.loop-line.invariant.0
