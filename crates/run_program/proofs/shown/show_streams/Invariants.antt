use Rattle.std.proofs.Common.{◌≤◌, take}
use Rattle.std.specs.Io.KnownBytes.{Appends}
use Rattle.net_core.specs.State.{network, count}
use Rattle.run_program.specs.Run.{tokens_at, stream_lines}
use Rattle.run_program.proofs.shown.show_streams.Given as goal

abbrev pub invariant-loop-s : goal.invariant-loop-s
invariant-loop-s g l =
    Appends (g.O.Sink.contents l.fn.out) (g.O.Sink.contents l.out) (stream_lines (tokens_at (network l.net) (count l.net) l.last) 0 (take l.s l.program.streams.items))
    × (g.O.Sink.faults l.fn.out ≤ g.O.Sink.faults l.out)
