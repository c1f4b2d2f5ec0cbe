use Rattle.std.proofs.Common.{List, map, ap, ◌∙◌, arith}
use Rattle.std.proofs.lemmas.List.{take_all}
use Rattle.std.specs.List.{list_any}
use Rattle.serde_json.specs.View.{view}
use Rattle.serde_json.specs.declared.value.Value.{Value}
use Rattle.run_data.specs.Seen.{seen}
use Rattle.plan_device.specs.Pins.{is_place_of}
use Rattle.plan_device.proofs.Pinned.{forbidden_by}
use Rattle.plan_device.proofs.pins.forbidden.Goals as goal

pub returns-clause-value : goal.returns-clause-value
returns-clause-value c = λ s less.
    let places = c.items-place-items.result.now in
    c.loop-place.invariant.1 s less
    ∙ ap (λ (l : List Value). list_any (is_place_of c.args.grid s) (map view l)) (take_all c.loop-place.place-index places (omega arith))
    ∙ forbidden_by c.args.grid (view c.args.file.now) s (seen c.get.result) (map view places) c.get.ensures c.items-place-items.ensures
