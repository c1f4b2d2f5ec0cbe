use Rattle.std.proofs.Common.{◌^◌, ◌<◌, List, map, sym, ap, subst, ◌∙◌, arith}
use Rattle.std.proofs.lemmas.List.{take_all}
use Rattle.serde_json.specs.View.{view}
use Rattle.serde_json.specs.declared.value.Value.{Value}
use Rattle.task_graph.specs.declared.Use.{Use}
use Rattle.task_graph.specs.Streams.{amount_at}
use Rattle.run_data.specs.Seen.{seen}
use Rattle.run_data.proofs.Lists.{map_map}
use Rattle.plan_device.specs.Amounts.{amounts_of}
use Rattle.plan_device.proofs.Uses.{slots_by, slots_small}
use Rattle.plan_device.proofs.contents.slots_of.Goals as goal

pub returns-clause-value : goal.returns-clause-value
returns-clause-value c =
    let values = c.items-values.result.now in
    c.loop-value.invariant
    ∙ ap (map (λ (value : Value). amounts_of (view value))) (take_all c.loop-value.value-index values (omega arith))
    ∙ sym (map_map amounts_of view values)
    ∙ slots_by (view c.args.file.now) (seen c.get.result) (map view values) c.get.ensures c.items-values.ensures

pub returns-clause-below : goal.returns-clause-below
returns-clause-below c = λ s k.
    let values = c.items-values.result.now in
    let whole =
    c.loop-value.invariant
    ∙ ap (map (λ (value : Value). amounts_of (view value))) (take_all c.loop-value.value-index values (omega arith))
    ∙ sym (map_map amounts_of view values) in
    subst (λ (slots : List Use). amount_at slots s k < 2 ^ 32) (sym whole) (slots_small (map view values) s k)
