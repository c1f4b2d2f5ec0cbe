use Rattle.slot_split.specs.Regions.{AreSums}
use Rattle.slot_split.proofs.regions.sums_of.Given as goal

abbrev pub invariant-loop-slot : goal.invariant-loop-slot
invariant-loop-slot l = AreSums l.device l.corners l.slot l.sums.items
