use Rattle.std.proofs.Common.{◌-◌}
use Rattle.std.specs.Prelude.{slice_index}
use Rattle.flow_cert.specs.Flow.{weight}
use Rattle.latency_balance.specs.Moves.{IsFlow}
use Rattle.latency_balance.proofs.settling.settle_stream.Given as goal

abbrev pub invariant-cycles : goal.invariant-cycles
invariant-cycles l = IsFlow l.graph l.flow.items

abbrev pub decreases-cycles : goal.decreases-cycles
decreases-cycles l = 5441945600 - weight l.graph (slice_index l.lat) (slice_index l.flow.items)
