use Rattle.std.proofs.Common.{◌≡◌, map, take}
use Rattle.serde_json.specs.View.{view}
use Rattle.run_data.specs.Data.{is_ready}
use Rattle.run_data.proofs.values.ready.Given as goal

abbrev pub invariant-loop-value : goal.invariant-loop-value
invariant-loop-value l = l.ready.items ≡ map (λ value. is_ready (view value)) (take l.value-index l.values)
