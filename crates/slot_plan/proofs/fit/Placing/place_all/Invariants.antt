use Rattle.slot_plan.specs.Placing.{ArePlaced}
use Rattle.slot_plan.proofs.fit.Placing.place_all.Given as goal

abbrev pub invariant-loop-group : goal.invariant-loop-group
invariant-loop-group l = ArePlaced l.device l.needs l.free l.group l.self
