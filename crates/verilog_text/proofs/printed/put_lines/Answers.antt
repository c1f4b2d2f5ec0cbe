use Rattle.std.proofs.Common.{◌∙◌, ◌++◌, List, ℕ, ap, sym, take, drop, arith}
use Rattle.std.proofs.lemmas.List.{take-append-drop}
use Rattle.tapa_files.proofs.Known.{put_more, part_of_next}
use Rattle.verilog_text.proofs.printed.put_lines.Goals as goal

pub loop-rest-preserved : goal.loop-rest-preserved
loop-rest-preserved g c = (
  put_more (g.O.Sink.contents c.args.out.now) (g.O.Sink.contents c.loop-rest.out) (g.O.Sink.contents c.put_all.new.sink) c.args.text.now c.loop-rest.rest.now c.line_length-count.result c.loop-rest.invariant.0 c.line_length-count.ensures.within c.in-Ok.ensures.whole,
  omega (arith, c.loop-rest.invariant.1, c.in-Ok.ensures.later),
)

pub returns-in-Err-clause-part : goal.returns-in-Err-clause-part
returns-in-Err-clause-part g c =
    let n = c.loop-rest.invariant.0.0 in
    let rest = c.loop-rest.rest.now in
    let k = c.line_length-count.result in
    part_of_next (g.O.Sink.contents c.args.out.now) (g.O.Sink.contents c.loop-rest.out) (g.O.Sink.contents c.put_all.new.sink) c.args.text.now (take n c.args.text.now) (take k rest) (drop k rest)
    (sym (take-append-drop n c.args.text.now) ∙ ap (λ (l : List ℕ). take n c.args.text.now ++ l) (sym c.loop-rest.invariant.0.2 ∙ sym (take-append-drop k rest)))
    c.loop-rest.invariant.0.3 c.in-Err.ensures.part
