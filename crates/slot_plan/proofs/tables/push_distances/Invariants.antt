use Rattle.std.proofs.Common.{◌≡◌, ◌++◌, map, take}
use Rattle.slot_plan.specs.Plan.{distance}
use Rattle.slot_plan.proofs.tables.push_distances.Given as goal

abbrev pub invariant-loop-place : goal.invariant-loop-place
invariant-loop-place l = l.table.items ≡ l.fn.table.items ++ map (distance l.device l.slot) (take l.place-index l.choice.places.items)
