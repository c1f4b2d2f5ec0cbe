use Rattle.plan_report.specs.Lines.{texts, stream_line}
use Rattle.plan_report.proofs.Below.{more_lines}
use Rattle.plan_report.proofs.report.add_streams.Goals as goal

pub loop-stream-preserved : goal.loop-stream-preserved
loop-stream-preserved c =
    more_lines (stream_line c.args.graph.now c.args.latencies.now c.args.balance.now) (texts c.args.lines.now.items) c.loop-stream.lines.items c.push.new.self.items c.loop-stream.stream c.in_ok-line.line c.in_ok-push.ensures.items c.loop-stream.invariant c.in_ok-line.ensures
