use Rattle.std.proofs.Common.{map, Some, sym, ap, ◌∙◌, arith}
use Rattle.std.proofs.lemmas.List.{take_all}
use Rattle.serde_json.specs.View.{view}
use Rattle.serde_json.specs.declared.value.Value.{Value}
use Rattle.serde_json.specs.Data.{Data as Json}
use Rattle.run_data.proofs.Lists.{map_map}
use Rattle.plan_device.specs.Contents.{levels_of}
use Rattle.plan_device.proofs.contents.levels_each.Goals as goal

pub returns-clause-value : goal.returns-clause-value
returns-clause-value c =
    c.loop-value.invariant.0
    ∙ ap (map (λ (value : Value). levels_of (Some (view value)))) (take_all c.loop-value.value-index c.args.values.now (omega arith))
    ∙ sym (map_map (λ (item : Json). levels_of (Some item)) view c.args.values.now)
