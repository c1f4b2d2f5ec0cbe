use Rattle.std.proofs.Common.{◌≡◌, map, take}
use Rattle.serde_json.specs.View.{view}
use Rattle.plan_device.specs.Amounts.{amounts_of}
use Rattle.plan_device.proofs.contents.slots_of.Given as goal

abbrev pub invariant-loop-value : goal.invariant-loop-value
invariant-loop-value l = l.slots.items ≡ map (λ value. amounts_of (view value)) (take l.value-index l.values)
