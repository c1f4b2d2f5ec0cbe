use Rattle.std.proofs.Common.{◌≡◌, drop}
use Rattle.vlog_tree.specs.Cycle.{child_of}
use Rattle.vlog_ref_cycle.proofs.places.child_of.Given as goal

abbrev pub invariant-loop-item : goal.invariant-loop-item
invariant-loop-item l = child_of l.items l.name ≡ child_of (drop l.item-index l.items) l.name
