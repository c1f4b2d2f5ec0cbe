use Rattle.std.proofs.Common.{◌≡◌, drop}
use Rattle.vlog_ref_cycle.specs.Sources.{connection_out}
use Rattle.vlog_ref_cycle.proofs.lines.connection_out.Given as goal

abbrev pub invariant-loop-l : goal.invariant-loop-l
invariant-loop-l l = connection_out l.ports l.connections l.x ≡ connection_out l.ports (drop l.l-index l.connections) l.x
