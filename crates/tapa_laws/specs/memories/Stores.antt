-- The memories in which the code of a program stores, and the cells of those in which it stores nothing.
use Rattle.std.specs.Prelude.{◌≡◌, ℕ, List, [], ◌∷◌, map, Some, slice_get, slice_index_or}
use Rattle.tapa_syntax.specs.declared.program.Instance.{Instance}
use Rattle.tapa_syntax.specs.declared.program.Leaf.{Leaf}
use Rattle.tapa_syntax.specs.declared.program.Program.{Program}
use Rattle.tapa_syntax.specs.Flat.{FlatStatement, store, store_by, read_store, branch, loop, FlatStatements, no_statement, statement_then, flat_statement}
use Rattle.kahn_model.specs.Cells.{cells_at}

-- F holds of each position of a memory that a statement stores to
abbrev mutual
  pub StoresAt : (ℕ → Type 0) → FlatStatement → Type 0
  StoresAt F (store m i e) = F m
  StoresAt F (store_by m i o k e) = F m
  StoresAt F (read_store s m i) = F m
  StoresAt F (branch e left right) = RowStoresAt F left × RowStoresAt F right
  StoresAt F (loop e body step) = RowStoresAt F body × RowStoresAt F step
  StoresAt F _ = Unit {0}

  pub RowStoresAt : (ℕ → Type 0) → FlatStatements → Type 0
  RowStoresAt F no_statement = Unit {0}
  RowStoresAt F (statement_then s rest) = StoresAt F s × RowStoresAt F rest

-- F holds of each position of a memory that the statements of a list store to
abbrev pub CodeStoresAt : (ℕ → Type 0) → List FlatStatement → Type 0
CodeStoresAt F [] = Unit {0}
CodeStoresAt F (s ∷ rest) = StoresAt F s × CodeStoresAt F rest

-- a position of an instance that is not bound to memory m
abbrev pub IsApart : Instance → ℕ → ℕ → Type 0
IsApart x m p = slice_get x.memories.items p ≡ Some m → ⊥

-- the code of no instance stores at a position that is bound to memory m
abbrev pub StoresNothingIn : Program → ℕ → Type 0
StoresNothingIn program m =
    (i : ℕ) (x : Instance) (leaf : Leaf) → slice_get program.instances.items i ≡ Some x → slice_get program.bodies.items x.body ≡ Some leaf
    → CodeStoresAt (IsApart x m) (map flat_statement leaf.code.items)

-- the cells of a memory in which nothing is stored are at every count those that were given
abbrev pub CellsStayWhereNothingIsStored : Type 0
CellsStayWhereNothingIsStored =
    (program : Program) (m : ℕ) → StoresNothingIn program m → (scalars : List ℕ) (memories : List (List ℕ)) (k : ℕ → ℕ)
    → cells_at program scalars memories k m ≡ slice_index_or memories m []
