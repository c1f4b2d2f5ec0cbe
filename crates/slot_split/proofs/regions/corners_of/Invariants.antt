use Rattle.slot_split.proofs.Corners.{AreCornersBelow}
use Rattle.slot_split.proofs.regions.corners_of.Given as goal

abbrev pub invariant-loop-slot : goal.invariant-loop-slot
invariant-loop-slot l = AreCornersBelow l.device l.row_levels l.level l.slot l.corners.items
