use Rattle.std.proofs.Common.{◌≡◌, drop}
use Rattle.std.specs.List.{list_all}
use Rattle.serde_json.specs.View.{view}
use Rattle.plan_device.specs.Json.{is_whole}
use Rattle.plan_device.proofs.json.is_whole_place.Given as goal

abbrev pub invariant-loop-number : goal.invariant-loop-number
invariant-loop-number l = list_all (λ value. is_whole (view value)) l.number-items ≡ list_all (λ value. is_whole (view value)) (drop l.number-index l.number-items)
