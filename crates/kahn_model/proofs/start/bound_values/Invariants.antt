use Rattle.std.proofs.Common.{◌≡◌, map, take}
use Rattle.kahn_model.specs.Start.{bound_value}
use Rattle.kahn_model.specs.Start.{kinds_in}
use Rattle.kahn_model.proofs.start.bound_values.Given as goal

abbrev pub invariant-loop-bound : goal.invariant-loop-bound
invariant-loop-bound l = l.values.items ≡ map (bound_value (kinds_in l.program) l.scalars) (take l.bound-index l.instance.scalars.items)
