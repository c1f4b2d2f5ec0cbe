use Rattle.std.proofs.Common.{◌≡◌, drop}
use Rattle.std.specs.List.{list_all}
use Rattle.serde_json.specs.View.{view}
use Rattle.run_data.specs.Data.{has_bits}
use Rattle.run_data.proofs.misfit.have_bits.Given as goal

abbrev pub invariant-loop-value : goal.invariant-loop-value
invariant-loop-value l = list_all (λ value. has_bits l.bits (view value)) l.values ≡ list_all (λ value. has_bits l.bits (view value)) (drop l.value-index l.values)
