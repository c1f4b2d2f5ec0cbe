use Rattle.std.proofs.Common.{◌≡◌, ◌<◌, ℕ, List, [], length, take, get_or, ◌∙◌, ap, add-one, arith}
use Rattle.std.specs.Prelude.{slice_index_or}
use Rattle.tapa_base.specs.declared.shape.Port.{Port}
use Rattle.tapa_base.specs.declared.token.Token.{Token}
use Rattle.tapa_files.proofs.Known.{part_of_next, appends_both}
use Rattle.run_data.specs.Report.{stream_line}
use Rattle.run_data.proofs.Showing.{first_next, first_more}
use Rattle.vlog_design.specs.Environments.{lists_of}
use Rattle.sim_output.specs.Reports.{stream_lines}
use Rattle.tapa_base.proofs.Got.{on_err}
use Rattle.sim_output.proofs.shown.show_streams.Goals as goal

-- the line that a turn writes is that of its stream
line_is : (label : List ℕ) (tokens : List Token) (xs : List Port) (i : ℕ) (x : Port) (t : ℕ → List Token) → label ≡ (get_or xs i x).name → tokens ≡ t i → stream_line label tokens ≡ stream_line (get_or xs i x).name (t i)
line_is label tokens xs i x t a e = ap (λ (l : List ℕ). stream_line l tokens) a ∙ ap (λ (ts : List Token). stream_line (get_or xs i x).name ts) e

pub returns-in_err-report_stream-clause-part : goal.returns-in_err-report_stream-clause-part
returns-in_err-report_stream-clause-part g c =
    let t = λ (i : ℕ). slice_index_or (lists_of c.args.tokens.now) i [] in
    let xs = c.args.streams.now in
    let within : c.loop-s.s < length xs = omega (arith, c.loop-s-test.true) in
    let line = line_is c.bytes-label.result.now c.tokens_at.result.now xs c.loop-s.s c.index-streams-s.result t c.bytes-label.ensures.value c.tokens_at.ensures in
    on_err c.from_residual.result
    (part_of_next (g.O.Sink.contents c.args.out.now) (g.O.Sink.contents c.loop-s.out) (g.O.Sink.contents c.report_stream.new.out) (stream_lines t xs) (stream_lines t (take c.loop-s.s xs)) (stream_line (get_or xs c.loop-s.s c.index-streams-s.result).name (t c.loop-s.s)) _
    (first_next (λ (r : Port) n. stream_line r.name (t n)) xs c.loop-s.s c.index-streams-s.result within) c.loop-s.invariant.0 (rw line at c.in_err-report_stream.ensures.part))

pub loop-s-preserved : goal.loop-s-preserved
loop-s-preserved g c =
    let t = λ (i : ℕ). slice_index_or (lists_of c.args.tokens.now) i [] in
    let xs = c.args.streams.now in
    let within : c.loop-s.s < length xs = omega (arith, c.loop-s-test.true) in
    let line = line_is c.bytes-label.result.now c.tokens_at.result.now xs c.loop-s.s c.index-streams-s.result t c.bytes-label.ensures.value c.tokens_at.ensures in (
      rw (add-one c.loop-s.s, first_more (λ (r : Port) n. stream_line r.name (t n)) xs c.loop-s.s c.index-streams-s.result within)
          (appends_both (g.O.Sink.contents c.args.out.now) (g.O.Sink.contents c.loop-s.out) (g.O.Sink.contents c.report_stream.new.out) _ _ c.loop-s.invariant.0 (rw line at c.in_ok-report_stream.ensures.whole)),
      omega (arith, c.loop-s.invariant.1, c.in_ok-report_stream.ensures.later),
    )
