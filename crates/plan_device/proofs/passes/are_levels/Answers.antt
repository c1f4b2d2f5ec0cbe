use Rattle.std.proofs.Common.{◌≡◌, false, sym, ◌∙◌, arith}
use Rattle.serde_json.specs.View.{view}
use Rattle.serde_json.specs.declared.value.Value.{Value}
use Rattle.plan_device.specs.Json.{is_in}
use Rattle.run_data.proofs.Lists.{all-map, all_here, all_over}
use Rattle.plan_device.proofs.passes.are_levels.Goals as goal

pub returns-then-not-is_in : goal.returns-then-not-is_in
returns-then-not-is_in c =
    let values = c.args.values.now in
    let fails : is_in 0 17 (view c.value-item.result) ≡ false = sym c.is_in.ensures ∙ c.if-not-is_in.true in
    sym (all-map (is_in 0 17) view values ∙ c.loop-value.invariant
    ∙ all_here (λ (value : Value). is_in 0 17 (view value)) values c.loop-value.value-index c.value-item.result (omega arith) c.value-item.is fails)

pub returns : goal.returns
returns c =
    let values = c.args.values.now in
    sym (all-map (is_in 0 17) view values ∙ c.loop-value.invariant ∙ all_over (λ (value : Value). is_in 0 17 (view value)) values c.loop-value.value-index (omega arith))
