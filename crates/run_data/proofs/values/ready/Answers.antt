use Rattle.std.proofs.Common.{map, sym, ap, ◌∙◌, arith}
use Rattle.std.proofs.lemmas.List.{take_all}
use Rattle.serde_json.specs.View.{view}
use Rattle.run_data.specs.Data.{is_ready}
use Rattle.run_data.proofs.Lists.{map_map}
use Rattle.run_data.proofs.values.ready.Goals as goal

pub returns : goal.returns
returns c =
    c.loop-value.invariant
    ∙ ap (map (λ value. is_ready (view value))) (take_all c.loop-value.value-index c.args.values.now (omega arith))
    ∙ sym (map_map is_ready view c.args.values.now)
