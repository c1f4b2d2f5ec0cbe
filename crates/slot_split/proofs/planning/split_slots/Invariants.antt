use Rattle.slot_split.specs.Regions.{IsBehind}
use Rattle.slot_split.proofs.planning.split_slots.Given as goal

abbrev pub invariant-loop-level : goal.invariant-loop-level
invariant-loop-level l = IsBehind l.graph l.device l.row_levels l.level l.homes.items
