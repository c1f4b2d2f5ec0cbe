-- The positions that code stores to, where code is put together, and where what holds of them implies something else.
use Rattle.std.proofs.Common.{ℕ, List, [], ◌∷◌, ◌++◌}
use Rattle.tapa_syntax.specs.Flat.{FlatStatement, set, set_cell, set_cell_by, store, store_by, read_variable, read_cell, read_store, write, take_end, put_end, discard, clear}
use Rattle.tapa_syntax.specs.Flat.{branch, loop, break, continue, FlatStatements, no_statement, statement_then, in_row}
use Rattle.tapa_laws.specs.memories.Stores.{StoresAt, RowStoresAt, CodeStoresAt}

mutual
  stores_wider : (F G : ℕ → Type 0) → ((p : ℕ) → F p → G p) → (s : FlatStatement) → StoresAt F s → StoresAt G s
  stores_wider F G f (store m i e) h = f m h
  stores_wider F G f (store_by m i o k e) h = f m h
  stores_wider F G f (read_store s m i) h = f m h
  stores_wider F G f (branch e left right) (a, b) = (row_wider F G f left a, row_wider F G f right b)
  stores_wider F G f (loop e body step) (a, b) = (row_wider F G f body a, row_wider F G f step b)
  stores_wider F G f (set x e) h = tt
  stores_wider F G f (set_cell a i e) h = tt
  stores_wider F G f (set_cell_by a i o k e) h = tt
  stores_wider F G f (read_variable s x) h = tt
  stores_wider F G f (read_cell s a i) h = tt
  stores_wider F G f (write s e) h = tt
  stores_wider F G f (take_end s) h = tt
  stores_wider F G f (put_end s) h = tt
  stores_wider F G f (discard e) h = tt
  stores_wider F G f (clear a) h = tt
  stores_wider F G f break h = tt
  stores_wider F G f continue h = tt

  row_wider : (F G : ℕ → Type 0) → ((p : ℕ) → F p → G p) → (ss : FlatStatements) → RowStoresAt F ss → RowStoresAt G ss
  row_wider F G f no_statement h = tt
  row_wider F G f (statement_then s ss) (a, h) = (stores_wider F G f s a, row_wider F G f ss h)

pub code_wider : (F G : ℕ → Type 0) → ((p : ℕ) → F p → G p) → (ss : List FlatStatement) → CodeStoresAt F ss → CodeStoresAt G ss
code_wider F G f [] h = tt
code_wider F G f (s ∷ ss) (a, h) = (stores_wider F G f s a, code_wider F G f ss h)

pub code_joined : (F : ℕ → Type 0) (xs ys : List FlatStatement) → CodeStoresAt F xs → CodeStoresAt F ys → CodeStoresAt F (xs ++ ys)
code_joined F [] ys a b = b
code_joined F (x ∷ xs) ys (p, a) b = (p, code_joined F xs ys a b)

pub code_row : (F : ℕ → Type 0) (xs : List FlatStatement) → CodeStoresAt F xs → RowStoresAt F (in_row xs)
code_row F [] h = tt
code_row F (x ∷ xs) (p, h) = (p, code_row F xs h)
