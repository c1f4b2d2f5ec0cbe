use Rattle.std.proofs.Common.{◌≡◌, ◌++◌}
use Rattle.plan_report.specs.Lines.{texts, lines_below, stream_line}
use Rattle.plan_report.proofs.report.add_streams.Given as goal

abbrev pub invariant-loop-stream : goal.invariant-loop-stream
invariant-loop-stream l = texts l.lines.items ≡ texts l.fn.lines.items ++ lines_below l.stream (stream_line l.graph l.latencies l.balance)
