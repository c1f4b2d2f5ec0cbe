use Rattle.slot_split.specs.Regions.{AreClosed}
use Rattle.slot_split.proofs.regions.closed_of.Given as goal

abbrev pub invariant-loop-slot : goal.invariant-loop-slot
invariant-loop-slot l = AreClosed l.device l.corners l.slot l.closed.items
