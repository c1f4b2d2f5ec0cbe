use Rattle.std.proofs.Common.{◌≡◌, drop}
use Rattle.vlog_ref_cycle.specs.Sources.{output_of}
use Rattle.vlog_ref_cycle.proofs.lines.output_of.Given as goal

abbrev pub invariant-loop-item : goal.invariant-loop-item
invariant-loop-item l = output_of l.modules l.items l.x ≡ output_of l.modules (drop l.item-index l.items) l.x
