use Rattle.std.proofs.Common.{◌≡◌, ℕ, List, [], ◌++◌, Result, Ok, Err, ap, sym, subst, ◌∙◌, append_assoc}
use Rattle.std.specs.Prelude.{OnOk}
use Rattle.std.specs.Io.KnownBytes.{Appends}
use Rattle.std.proofs.lemmas.List.{append-nil}
use Rattle.tapa_files.proofs.Known.{part_of_next, appends_none, appends_both}
use Rattle.tapa_syntax.specs.declared.program.Program.{Program}
use Rattle.kahn_model.specs.Network.{Network}
use Rattle.net_core.specs.declared.input.Input.{Input}
use Rattle.net_core.specs.declared.net_state.NetState.{NetState}
use Rattle.net_core.specs.State as state
use Rattle.run_data.specs.Report.{last_line}
use Rattle.run_data.specs.declared.lines.Last.{Last}
use Rattle.run_program.specs.Run.{tokens_at, cells_shown, stream_lines, memory_lines, lines_at}
use Rattle.net_core.specs.Bounded.{values_of}
use Rattle.run_data.proofs.Joining.{map_on_err}
use Rattle.run_program.proofs.Running.{network_is}
use Rattle.tapa_base.proofs.Got.{on_err}
use Rattle.run_program.proofs.shown.show.Goals as goal

map_on_ok : {T E P Q : Type 0} (r : Result T E) → (P → Q) → OnOk r P → OnOk r Q
map_on_ok (Ok x) f p = f p
map_on_ok (Err e) f p = p

module _ (program : Program) (input : Input) (net : NetState) (p : program ≡ net.program) (n : input ≡ net.input) (last : Last) where
  abbrev streams : List ℕ
  streams = stream_lines (tokens_at (state.network net) (state.count net) last) 0 program.streams.items

  abbrev memories : List ℕ
  memories = memory_lines (cells_shown program (values_of input) (state.count net) last) 0 program.memories.items

  abbrev report : List ℕ
  report = lines_at program (values_of input) (state.count net) last ++ last_line last

  lines_are : lines_at program (values_of input) (state.count net) last ≡ streams ++ memories
  lines_are = ap (λ (N : Network). stream_lines (tokens_at N (state.count net) last) 0 program.streams.items ++ memories) (sym (network_is program input net (sym p) (sym n)))

  -- the report is the lines of the streams, those of the memories, and the last
  two_parts : report ≡ (streams ++ memories) ++ last_line last
  two_parts = ap (λ (l : List ℕ). l ++ last_line last) lines_are

  three_parts : report ≡ streams ++ (memories ++ last_line last)
  three_parts = two_parts ∙ append_assoc streams memories (last_line last)

pub returns-in_err-show_streams-clause-part : goal.returns-in_err-show_streams-clause-part
returns-in_err-show_streams-clause-part g c =
    let old = g.O.Sink.contents c.args.out.now in
    let s = streams c.args.program.now c.args.input.now c.args.net.now c.requires.program c.requires.input c.args.last in
    on_err c.from_residual.result (part_of_next old old (g.O.Sink.contents c.show_streams.new.out) _ [] s _ (three_parts c.args.program.now c.args.input.now c.args.net.now c.requires.program c.requires.input c.args.last) (appends_none old) c.in_err-show_streams.ensures.part)

pub returns-in_err-show_memories-clause-part : goal.returns-in_err-show_memories-clause-part
returns-in_err-show_memories-clause-part g c =
    let s = streams c.args.program.now c.args.input.now c.args.net.now c.requires.program c.requires.input c.args.last in
    let m = memories c.args.program.now c.args.input.now c.args.net.now c.requires.program c.requires.input c.args.last in
    on_err c.from_residual-in_err-show_memories.result
    (part_of_next (g.O.Sink.contents c.args.out.now) (g.O.Sink.contents c.show_streams.new.out) (g.O.Sink.contents c.show_memories.new.out) _ s m (last_line c.args.last) (three_parts c.args.program.now c.args.input.now c.args.net.now c.requires.program c.requires.input c.args.last) c.in_ok-show_streams.ensures.whole c.in_err-show_memories.ensures.part)

pub returns-clause-part : goal.returns-clause-part
returns-clause-part g c =
    let s = streams c.args.program.now c.args.input.now c.args.net.now c.requires.program c.requires.input c.args.last in
    let m = memories c.args.program.now c.args.input.now c.args.net.now c.requires.program c.requires.input c.args.last in
    let both = appends_both (g.O.Sink.contents c.args.out.now) (g.O.Sink.contents c.show_streams.new.out) (g.O.Sink.contents c.show_memories.new.out) s m c.in_ok-show_streams.ensures.whole c.in_ok-show_memories.ensures.whole in
    map_on_err c.report_last.result
    (part_of_next (g.O.Sink.contents c.args.out.now) (g.O.Sink.contents c.show_memories.new.out) (g.O.Sink.contents c.report_last.new.out) _ (s ++ m) (last_line c.args.last) []
    (two_parts c.args.program.now c.args.input.now c.args.net.now c.requires.program c.requires.input c.args.last ∙ ap (λ l. (s ++ m) ++ l) (sym (append-nil (last_line c.args.last)))) both)
    c.report_last.ensures.part

pub returns-clause-whole : goal.returns-clause-whole
returns-clause-whole g c =
    let s = streams c.args.program.now c.args.input.now c.args.net.now c.requires.program c.requires.input c.args.last in
    let m = memories c.args.program.now c.args.input.now c.args.net.now c.requires.program c.requires.input c.args.last in
    let both = appends_both (g.O.Sink.contents c.args.out.now) (g.O.Sink.contents c.show_streams.new.out) (g.O.Sink.contents c.show_memories.new.out) s m c.in_ok-show_streams.ensures.whole c.in_ok-show_memories.ensures.whole in
    map_on_ok c.report_last.result
    (λ last.
    subst (λ (l : List ℕ). Appends (g.O.Sink.contents c.args.out.now) (g.O.Sink.contents c.report_last.new.out) l) (sym (two_parts c.args.program.now c.args.input.now c.args.net.now c.requires.program c.requires.input c.args.last))
    (appends_both (g.O.Sink.contents c.args.out.now) (g.O.Sink.contents c.show_memories.new.out) (g.O.Sink.contents c.report_last.new.out) (s ++ m) (last_line c.args.last) both last))
    c.report_last.ensures.whole
