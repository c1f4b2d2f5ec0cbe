-- The registers that a machine has beside the variables of its leaf: one for the value of each operation that something is
-- done with, and one that counts the cells of an array that is cleared.
use Rattle.std.specs.Prelude.{ℕ, ◌+◌, List, [], ◌∷◌}
use Rattle.tapa_syntax.specs.declared.program.Expr.{Expr}
use Rattle.tapa_syntax.specs.declared.program.Expr.TheVariants.{Read, Peek, Eot, Load'}
use Rattle.tapa_syntax.specs.declared.program.Stmt.{Stmt, Row_of-Stmt, end_of-Stmt, more_of-Stmt}
use Rattle.tapa_syntax.specs.declared.program.Stmt.TheVariants.{Set, SetCell, SetCellBy, Store, StoreBy, ReadVar, ReadCell, ReadStore, Write, Open, Close, Discard, Clear, If', Loop', Break, Continue}
use Rattle.tapa_syntax.specs.TickPlaces.{operation_count}

-- of a value that is let go, the last operation needs none
abbrev pub held_of_discarded : Expr → ℕ
held_of_discarded (Read s) = 0
held_of_discarded (Peek s) = 0
held_of_discarded (Eot s) = 0
held_of_discarded (Load' m p e) = operation_count e
held_of_discarded e = operation_count e

abbrev mutual
  pub held_of : Stmt → ℕ
  held_of (Set x e) = operation_count e
  held_of (SetCell a i e) = operation_count i + operation_count e
  held_of (SetCellBy a i op kind e) = operation_count i + operation_count e
  held_of (Store m i e) = operation_count i + operation_count e
  held_of (StoreBy m i op kind e) = 1 + operation_count i + operation_count e
  held_of (ReadVar s x) = 1
  held_of (ReadCell s a i) = 1 + operation_count i
  held_of (ReadStore s m i) = 1 + operation_count i
  held_of (Write s e) = operation_count e
  held_of (Open s) = 0
  held_of (Close s) = 0
  held_of (Discard e) = held_of_discarded e
  held_of (Clear a) = 0
  held_of (If' e p left q right) = held_of_block right + held_of_block left + operation_count e
  held_of (Loop' e p body q step) = held_of_block step + held_of_block body + operation_count e
  held_of Break = 0
  held_of Continue = 0

  pub held_of_block : {m : _} → Row_of-Stmt m → ℕ
  held_of_block end_of-Stmt = 0
  held_of_block (more_of-Stmt s rest) = held_of_block rest + held_of s

abbrev pub held_of_list : List Stmt → ℕ
held_of_list [] = 0
held_of_list (s ∷ rest) = held_of_list rest + held_of s

-- the counter and the values
abbrev pub temporaries_of : List Stmt → ℕ
temporaries_of code = 1 + held_of_list code
