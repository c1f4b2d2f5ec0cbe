use Rattle.std.proofs.Common.{◌≡◌, map, take}
use Rattle.serde_json.specs.View.{view}
use Rattle.run_data.specs.Data.{bits_or_zero}
use Rattle.run_data.proofs.values.cells.Given as goal

abbrev pub invariant-loop-value : goal.invariant-loop-value
invariant-loop-value l = l.cells.items ≡ map (λ value. bits_or_zero l.bits (view value)) (take l.value-index l.values)
