use Rattle.std.proofs.Common.{◌≡◌, ◌<◌, ℕ, List, length, take, drop, suc, get_or, ◌∙◌, ap, add-one, arith}
use Rattle.tapa_base.specs.declared.token.Token.{Token}
use Rattle.tapa_files.proofs.Known.{part_of_next, appends_both}
use Rattle.tapa_syntax.specs.declared.program.Stream.{Stream}
use Rattle.net_core.specs.State.{network, count}
use Rattle.run_data.specs.Report.{stream_line}
use Rattle.run_program.specs.Run.{tokens_at, stream_lines}
use Rattle.run_data.proofs.Showing.{first_next, first_more}
use Rattle.tapa_base.proofs.Got.{on_err}
use Rattle.run_program.proofs.shown.show_streams.Goals as goal

-- the line that a turn writes is that of its stream
line_is : (label : List ℕ) (tokens : List Token) (xs : List Stream) (i : ℕ) (x : Stream) (t : ℕ → List Token) → label ≡ x.label → x ≡ get_or xs i x → tokens ≡ t i → stream_line label tokens ≡ stream_line (get_or xs i x).label (t i)
line_is label tokens xs i x t a b e = ap (λ (l : List ℕ). stream_line l tokens) (a ∙ ap (λ (r : Stream). r.label) b) ∙ ap (λ (ts : List Token). stream_line (get_or xs i x).label ts) e

pub returns-in_err-report_stream-clause-part : goal.returns-in_err-report_stream-clause-part
returns-in_err-report_stream-clause-part g c =
    let t = tokens_at (network c.args.net.now) (count c.args.net.now) c.args.last in
    let xs = c.args.program.now.streams.items in
    let within : c.loop-s.s < length xs = omega (arith, c.loop-s-test.true, c.len-s-end.ensures) in
    let line = line_is c.bytes-label.result.now c.shown_tokens.result.now xs c.loop-s.s c.index.result.now t c.bytes-label.ensures.value c.index.ensures c.shown_tokens.ensures in
    on_err c.from_residual.result (part_of_next (g.O.Sink.contents c.args.out.now) (g.O.Sink.contents c.loop-s.out) (g.O.Sink.contents c.report_stream.new.out) (stream_lines t 0 xs) (stream_lines t 0 (take c.loop-s.s xs)) (stream_line (get_or xs c.loop-s.s c.index.result.now).label (t c.loop-s.s)) (stream_lines t (suc c.loop-s.s) (drop (suc c.loop-s.s) xs)) (first_next (λ (r : Stream) n. stream_line r.label (t n)) xs c.loop-s.s c.index.result.now within) c.loop-s.invariant.0 (rw line at c.in_err-report_stream.ensures.part))

pub loop-s-preserved : goal.loop-s-preserved
loop-s-preserved g c =
    let t = tokens_at (network c.args.net.now) (count c.args.net.now) c.args.last in
    let xs = c.args.program.now.streams.items in
    let within : c.loop-s.s < length xs = omega (arith, c.loop-s-test.true, c.len-s-end.ensures) in
    let line = line_is c.bytes-label.result.now c.shown_tokens.result.now xs c.loop-s.s c.index.result.now t c.bytes-label.ensures.value c.index.ensures c.shown_tokens.ensures in (
      rw (add-one c.loop-s.s, first_more (λ (r : Stream) n. stream_line r.label (t n)) xs c.loop-s.s c.index.result.now within) (appends_both (g.O.Sink.contents c.args.out.now) (g.O.Sink.contents c.loop-s.out) (g.O.Sink.contents c.report_stream.new.out) _ _ c.loop-s.invariant.0 (rw line at c.in_ok-report_stream.ensures.whole)),
      omega (arith, c.loop-s.invariant.1, c.in_ok-report_stream.ensures.later),
    )
