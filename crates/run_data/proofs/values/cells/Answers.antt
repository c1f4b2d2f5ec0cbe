use Rattle.std.proofs.Common.{map, sym, ap, ◌∙◌, arith}
use Rattle.std.proofs.lemmas.List.{take_all}
use Rattle.serde_json.specs.View.{view}
use Rattle.run_data.specs.Data.{bits_or_zero}
use Rattle.run_data.proofs.Lists.{map_map}
use Rattle.run_data.proofs.values.cells.Goals as goal

pub returns : goal.returns
returns c =
    c.loop-value.invariant
    ∙ ap (map (λ value. bits_or_zero c.args.bits (view value))) (take_all c.loop-value.value-index c.args.values.now (omega arith))
    ∙ sym (map_map (bits_or_zero c.args.bits) view c.args.values.now)
