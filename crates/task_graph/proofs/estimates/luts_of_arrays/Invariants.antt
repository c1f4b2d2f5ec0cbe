use Rattle.std.proofs.Common.{◌≡◌, take}
use Rattle.std.specs.List.{sum_by}
use Rattle.task_graph.specs.Estimate.{array_luts}
use Rattle.tapa_syntax.specs.TickPlaces.{capped}
use Rattle.task_graph.proofs.estimates.luts_of_arrays.Given as goal

abbrev pub invariant-loop-array : goal.invariant-loop-array
invariant-loop-array l = l.sum ≡ capped (sum_by array_luts (take l.array-index l.arrays))
