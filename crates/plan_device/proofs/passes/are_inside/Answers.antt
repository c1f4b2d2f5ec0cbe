use Rattle.std.proofs.Common.{◌≡◌, false, sym, ◌∙◌, arith}
use Rattle.serde_json.specs.View.{view}
use Rattle.serde_json.specs.declared.value.Value.{Value}
use Rattle.plan_device.specs.Json.{is_inside}
use Rattle.run_data.proofs.Lists.{all-map, all_here, all_over}
use Rattle.plan_device.proofs.passes.are_inside.Goals as goal

pub returns-then-not-is_inside : goal.returns-then-not-is_inside
returns-then-not-is_inside c =
    let values = c.args.values.now in
    let fails : is_inside c.args.grid (view c.value-item.result) ≡ false = sym c.is_inside.ensures ∙ c.if-not-is_inside.true in
    sym (all-map (is_inside c.args.grid) view values ∙ c.loop-value.invariant
    ∙ all_here (λ (value : Value). is_inside c.args.grid (view value)) values c.loop-value.value-index c.value-item.result (omega arith) c.value-item.is fails)

pub returns : goal.returns
returns c =
    let values = c.args.values.now in
    sym (all-map (is_inside c.args.grid) view values ∙ c.loop-value.invariant ∙ all_over (λ (value : Value). is_inside c.args.grid (view value)) values c.loop-value.value-index (omega arith))
