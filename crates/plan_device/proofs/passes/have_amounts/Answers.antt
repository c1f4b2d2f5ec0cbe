use Rattle.std.proofs.Common.{◌≡◌, false, sym, ◌∙◌, arith}
use Rattle.serde_json.specs.View.{view}
use Rattle.serde_json.specs.declared.value.Value.{Value}
use Rattle.plan_device.specs.Json.{has_amounts}
use Rattle.run_data.proofs.Lists.{all-map, all_here, all_over}
use Rattle.plan_device.proofs.passes.have_amounts.Goals as goal

pub returns-then-not-has_amounts : goal.returns-then-not-has_amounts
returns-then-not-has_amounts c =
    let values = c.args.values.now in
    let fails : has_amounts (view c.value-item.result) ≡ false = sym c.has_amounts.ensures ∙ c.if-not-has_amounts.true in
    sym (all-map (has_amounts) view values ∙ c.loop-value.invariant
    ∙ all_here (λ (value : Value). has_amounts (view value)) values c.loop-value.value-index c.value-item.result (omega arith) c.value-item.is fails)

pub returns : goal.returns
returns c =
    let values = c.args.values.now in
    sym (all-map (has_amounts) view values ∙ c.loop-value.invariant ∙ all_over (λ (value : Value). has_amounts (view value)) values c.loop-value.value-index (omega arith))
