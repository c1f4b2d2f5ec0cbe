use Rattle.std.proofs.Common.{◌≡◌, false, sym, ap, ◌∙◌, arith}
use Rattle.std.specs.List.{list_all}
use Rattle.serde_json.specs.View.{view}
use Rattle.serde_json.specs.declared.value.Value.{Value}
use Rattle.plan_device.specs.Json.{is_whole}
use Rattle.run_data.proofs.Lists.{all-map, all_here, all_over}
use Rattle.plan_device.proofs.json.is_whole_place.Goals as goal

pub returns-then-not-is_whole : goal.returns-then-not-is_whole
returns-then-not-is_whole c =
    let values = c.items-number-items.result.now in
    let fails : is_whole (view c.number-item.result) ≡ false = sym c.is_whole.ensures ∙ c.if-not-is_whole.true in
    sym (ap (list_all is_whole) (sym c.items-number-items.ensures) ∙ all-map is_whole view values ∙ c.loop-number.invariant
    ∙ all_here (λ (value : Value). is_whole (view value)) values c.loop-number.number-index c.number-item.result (omega arith) c.number-item.is fails)

pub returns : goal.returns
returns c =
    let values = c.items-number-items.result.now in
    sym (ap (list_all is_whole) (sym c.items-number-items.ensures) ∙ all-map is_whole view values ∙ c.loop-number.invariant
    ∙ all_over (λ (value : Value). is_whole (view value)) values c.loop-number.number-index (omega arith))
