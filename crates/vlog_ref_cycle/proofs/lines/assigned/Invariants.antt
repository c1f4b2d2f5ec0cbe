use Rattle.std.proofs.Common.{◌≡◌, drop}
use Rattle.vlog_ref_cycle.specs.Sources.{assigned}
use Rattle.vlog_ref_cycle.proofs.lines.assigned.Given as goal

abbrev pub invariant-loop-item : goal.invariant-loop-item
invariant-loop-item l = assigned l.items l.x ≡ assigned (drop l.item-index l.items) l.x
