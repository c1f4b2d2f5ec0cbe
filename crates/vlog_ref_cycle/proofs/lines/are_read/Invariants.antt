use Rattle.std.proofs.Common.{◌≡◌, drop}
use Rattle.vlog_ref_cycle.specs.Sources.{are_read}
use Rattle.vlog_ref_cycle.proofs.lines.are_read.Given as goal

abbrev pub invariant-loop-n : goal.invariant-loop-n
invariant-loop-n l = are_read l.scope l.nets ≡ are_read l.scope (drop l.n-index l.nets)
