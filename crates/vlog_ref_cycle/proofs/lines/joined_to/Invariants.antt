use Rattle.std.proofs.Common.{◌≡◌, drop}
use Rattle.vlog_ref_cycle.specs.Sources.{joined_to}
use Rattle.vlog_ref_cycle.proofs.lines.joined_to.Given as goal

abbrev pub invariant-loop-item : goal.invariant-loop-item
invariant-loop-item l = joined_to l.items l.instance l.x ≡ joined_to (drop l.item-index l.items) l.instance l.x
