use Rattle.std.proofs.Common.{◌≡◌, [], map, take}
use Rattle.std.specs.Prelude.{slice_index_or}
use Rattle.kahn_model.specs.Rows.{rows_of}
use Rattle.kahn_model.proofs.start.first_cells.Given as goal

abbrev pub invariant-loop-m : goal.invariant-loop-m
invariant-loop-m l = rows_of l.rows.items ≡ map (λ m. slice_index_or (rows_of l.memories) m []) (take l.m-index l.bound)
