use Rattle.std.proofs.Common.{◌≡◌, drop}
use Rattle.std.specs.List.{list_all}
use Rattle.serde_json.specs.View.{view}
use Rattle.plan_device.specs.Json.{has_amounts}
use Rattle.plan_device.proofs.passes.have_amounts.Given as goal

abbrev pub invariant-loop-value : goal.invariant-loop-value
invariant-loop-value l = list_all (λ value. has_amounts (view value)) l.values ≡ list_all (λ value. has_amounts (view value)) (drop l.value-index l.values)
