use Rattle.std.proofs.Common.{◌≡◌, ◌≤◌, All, Some, map, take}
use Rattle.serde_json.specs.View.{view}
use Rattle.plan_device.specs.Contents.{levels_of}
use Rattle.plan_device.proofs.contents.levels_each.Given as goal

abbrev pub invariant-loop-value : goal.invariant-loop-value
invariant-loop-value l =
    (l.levels.items ≡ map (λ value. levels_of (Some (view value))) (take l.value-index l.values))
    × All (λ n. n ≤ 16) l.levels.items
