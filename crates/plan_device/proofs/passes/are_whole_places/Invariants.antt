use Rattle.std.proofs.Common.{◌≡◌, drop}
use Rattle.std.specs.List.{list_all}
use Rattle.serde_json.specs.View.{view}
use Rattle.plan_device.specs.Json.{is_whole_place}
use Rattle.plan_device.proofs.passes.are_whole_places.Given as goal

abbrev pub invariant-loop-value : goal.invariant-loop-value
invariant-loop-value l = list_all (λ value. is_whole_place (view value)) l.values ≡ list_all (λ value. is_whole_place (view value)) (drop l.value-index l.values)
