-- Tick places: what a tick of a leaf's code is made at, each a state of the machine that runs it.
use Rattle.std.specs.Prelude.{ℕ, ◌+◌, ◌-◌, ◌^◌, min, List, map}
use Rattle.tapa_syntax.specs.declared.program.Expr.{Expr}
use Rattle.tapa_syntax.specs.declared.program.Stmt.{Stmt, Row_of-Stmt}
use Rattle.tapa_syntax.specs.Flat.{FlatExpression, FlatStatement, FlatStatements, literal, variable, cell, read, peek, is_end, load, convert, apply, flip, negation}
use Rattle.tapa_syntax.specs.Flat.{conjunction, disjunction, choice, set, set_cell, set_cell_by, store, store_by, read_variable, read_cell, read_store, write, take_end}
use Rattle.tapa_syntax.specs.Flat.{put_end, discard, clear, branch, loop, break, continue, no_statement, statement_then, flat_expression, flat_statement, flat_row, in_row}

-- the operations of an expression on streams and memories, each of which takes a tick
abbrev pub operations : FlatExpression → ℕ
operations (literal k n) = 0
operations (variable x) = 0
operations (cell a i) = operations i
operations (read s) = 1
operations (peek s) = 1
operations (is_end s) = 1
operations (load m i) = 1 + operations i
operations (convert from to e) = operations e
operations (apply o k a b) = operations b + operations a
operations (flip k e) = operations e
operations (negation e) = operations e
operations (conjunction a b) = operations b + operations a
operations (disjunction a b) = operations b + operations a
operations (choice c a b) = operations b + operations a + operations c

-- a statement: its operations, and one for what it does itself; `op=` on a memory loads and stores
abbrev mutual
  pub places : FlatStatement → ℕ
  places (set x e) = 1 + operations e
  places (set_cell a i e) = 1 + operations i + operations e
  places (set_cell_by a i o k e) = 1 + operations i + operations e
  places (store m i e) = 1 + operations i + operations e
  places (store_by m i o k e) = 2 + operations i + operations e
  places (read_variable s x) = 2
  places (read_cell s a i) = 2 + operations i
  places (read_store s m i) = 2 + operations i
  places (write s e) = 1 + operations e
  places (take_end s) = 1
  places (put_end s) = 1
  places (discard e) = operations e
  places (clear a) = 1
  places (branch e left right) = places_in right + places_in left + (1 + operations e)
  places (loop e body step) = places_in step + places_in body + (1 + operations e)
  places break = 0
  places continue = 0

  pub places_in : FlatStatements → ℕ
  places_in no_statement = 0
  places_in (statement_then s rest) = places_in rest + places s

-- a leaf's code: its statements, and its end
abbrev pub places_of : List FlatStatement → ℕ
places_of code = places_in (in_row code) + 1

-- ---- of the code as it lies in memory

abbrev pub operation_count : Expr → ℕ
operation_count e = operations (flat_expression e)

abbrev pub size_of : Stmt → ℕ
size_of s = places (flat_statement s)

abbrev pub size_of_block : {m : _} → Row_of-Stmt m → ℕ
size_of_block row = places_in (flat_row row)

abbrev pub size_of_list : List Stmt → ℕ
size_of_list code = places_in (in_row (map flat_statement code))

-- a number, or the greatest of 64 bits where it is more
abbrev pub capped : ℕ → ℕ
capped n = min n (2 ^ 64 - 1)
