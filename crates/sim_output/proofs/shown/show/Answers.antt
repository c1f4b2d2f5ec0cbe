use Rattle.std.proofs.Common.{ℕ, List, [], ◌++◌, ap, sym, append_assoc}
use Rattle.std.specs.Prelude.{slice_index_or}
use Rattle.std.proofs.lemmas.List.{append-nil}
use Rattle.tapa_files.proofs.Known.{part_of_next, appends_none, appends_both}
use Rattle.run_data.specs.Report.{last_line}
use Rattle.run_data.proofs.Joining.{map_on_err}
use Rattle.vlog_design.specs.Environments.{lists_of}
use Rattle.cycle_sim.specs.Simulators.{sim_of}
use Rattle.sim_output.specs.Reports.{stream_lines, memory_lines}
use Rattle.tapa_base.proofs.Got.{on_err}
use Rattle.sim_output.proofs.shown.show.Goals as goal

pub returns-in_err-show_streams-clause-part : goal.returns-in_err-show_streams-clause-part
returns-in_err-show_streams-clause-part g c =
    let old = g.O.Sink.contents c.args.out.now in
    let s = stream_lines (λ i. slice_index_or (lists_of c.args.tokens.now) i []) c.args.streams.now in
    let m = memory_lines (sim_of c.args.sim.now).told.outside c.args.memories.now in
    on_err c.from_residual.result (part_of_next old old (g.O.Sink.contents c.show_streams.new.out) ((s ++ m) ++ last_line c.args.last) [] s (m ++ last_line c.args.last) (append_assoc s m (last_line c.args.last)) (appends_none old) c.in_err-show_streams.ensures.part)

pub returns-in_err-show_memories-clause-part : goal.returns-in_err-show_memories-clause-part
returns-in_err-show_memories-clause-part g c =
    let s = stream_lines (λ i. slice_index_or (lists_of c.args.tokens.now) i []) c.args.streams.now in
    let m = memory_lines (sim_of c.args.sim.now).told.outside c.args.memories.now in
    on_err c.from_residual-in_err-show_memories.result
    (part_of_next (g.O.Sink.contents c.args.out.now) (g.O.Sink.contents c.show_streams.new.out) (g.O.Sink.contents c.show_memories.new.out) ((s ++ m) ++ last_line c.args.last) s m (last_line c.args.last) (append_assoc s m (last_line c.args.last)) c.in_ok-show_streams.ensures.whole c.in_err-show_memories.ensures.part)

pub returns-clause-part : goal.returns-clause-part
returns-clause-part g c =
    let s = stream_lines (λ i. slice_index_or (lists_of c.args.tokens.now) i []) c.args.streams.now in
    let m = memory_lines (sim_of c.args.sim.now).told.outside c.args.memories.now in
    let both = appends_both (g.O.Sink.contents c.args.out.now) (g.O.Sink.contents c.show_streams.new.out) (g.O.Sink.contents c.show_memories.new.out) s m c.in_ok-show_streams.ensures.whole c.in_ok-show_memories.ensures.whole in
    map_on_err c.report_last.result
    (part_of_next (g.O.Sink.contents c.args.out.now) (g.O.Sink.contents c.show_memories.new.out) (g.O.Sink.contents c.report_last.new.out) ((s ++ m) ++ last_line c.args.last) (s ++ m) (last_line c.args.last) [] (ap (λ (l : List ℕ). (s ++ m) ++ l) (sym (append-nil (last_line c.args.last)))) both)
    c.report_last.ensures.part
