use Rattle.latency_balance.specs.Moves.{IsFlow}
use Rattle.latency_balance.proofs.settling.settle_streams.Given as goal

abbrev pub invariant-loop-stream : goal.invariant-loop-stream
invariant-loop-stream l = IsFlow l.graph l.flow.items
