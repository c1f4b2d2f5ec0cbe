-- The cells of arrays.
use Rattle.std.proofs.Common.{◌≡◌, ◌+◌, List, [], ◌∷◌, ◌++◌, arith}
use Rattle.tapa_syntax.specs.declared.program.Array.{Array}
use Rattle.check_leaf.specs.Statements.{all_cells}

pub all_cells-more : (xs : List Array) (a : Array) → all_cells (xs ++ a ∷ []) ≡ all_cells xs + a.cells
all_cells-more [] a = omega arith
all_cells-more (b ∷ xs) a = let h = all_cells-more xs a in omega arith
