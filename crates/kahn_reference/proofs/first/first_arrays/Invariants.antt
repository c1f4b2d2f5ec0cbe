use Rattle.std.proofs.Common.{◌≡◌, map, replicate, take}
use Rattle.tapa_syntax.specs.declared.program.Array.{Array}
use Rattle.kahn_model.specs.Rows.{rows_of}
use Rattle.kahn_reference.proofs.first.first_arrays.Given as goal

abbrev pub invariant-loop-array : goal.invariant-loop-array
invariant-loop-array l = rows_of l.rows.items ≡ map (λ (a : Array). replicate a.cells 0) (take l.array-index l.arrays)
