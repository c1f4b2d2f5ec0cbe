use Rattle.std.proofs.Common.{◌≤◌, [], take}
use Rattle.std.specs.Prelude.{slice_index_or}
use Rattle.std.specs.Io.KnownBytes.{Appends}
use Rattle.vlog_design.specs.Environments.{lists_of}
use Rattle.sim_output.specs.Reports.{stream_lines}
use Rattle.sim_output.proofs.shown.show_streams.Given as goal

abbrev pub invariant-loop-s : goal.invariant-loop-s
invariant-loop-s g l =
    Appends (g.O.Sink.contents l.fn.out) (g.O.Sink.contents l.out) (stream_lines (λ i. slice_index_or (lists_of l.tokens) i []) (take l.s l.streams))
    × (g.O.Sink.faults l.fn.out ≤ g.O.Sink.faults l.out)
