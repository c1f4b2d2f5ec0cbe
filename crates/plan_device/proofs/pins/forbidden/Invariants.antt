use Rattle.std.proofs.Common.{◌≡◌, ◌<◌, ◌*◌, ℕ, false, length, get_or, map, take}
use Rattle.std.specs.List.{list_any}
use Rattle.serde_json.specs.View.{view}
use Rattle.plan_device.specs.Pins.{is_place_of}
use Rattle.plan_device.proofs.pins.forbidden.Given as goal

abbrev pub invariant-loop-place : goal.invariant-loop-place
invariant-loop-place l =
    (length l.forbidden.items ≡ l.grid.rows * l.grid.cols)
    × ((s : ℕ) → s < l.grid.rows * l.grid.cols → get_or l.forbidden.items s false ≡ list_any (is_place_of l.grid s) (map view (take l.place-index l.place-items)))
