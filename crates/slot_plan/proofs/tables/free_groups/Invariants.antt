use Rattle.slot_plan.specs.Merging.{AreThose, is_unpinned}
use Rattle.slot_plan.proofs.tables.free_groups.Given as goal

abbrev pub invariant-loop-group : goal.invariant-loop-group
invariant-loop-group l = AreThose l.group (is_unpinned l.device) l.groups.items
