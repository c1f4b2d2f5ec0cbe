use Rattle.std.proofs.Common.{◌≡◌, drop}
use Rattle.vlog_ref_cycle.specs.Sources.{connection_in}
use Rattle.vlog_ref_cycle.proofs.lines.connection_in.Given as goal

abbrev pub invariant-loop-l : goal.invariant-loop-l
invariant-loop-l l = connection_in l.connections l.x ≡ connection_in (drop l.l-index l.connections) l.x
