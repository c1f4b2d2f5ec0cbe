-- A leaf loads from its own memory parameters alone, and stores to them alone (TAPA, mmap).
use Rattle.std.specs.Prelude.{ℕ, ◌<◌, List, [], ◌∷◌}
use Rattle.tapa_syntax.specs.declared.program.Expr.{Expr}
use Rattle.tapa_syntax.specs.declared.program.Expr.TheVariants.{Lit, Var, Cell', Read, Peek, Eot, Load', Conv', Apply', Flip', Not', And', Or', Choose'}
use Rattle.tapa_syntax.specs.declared.program.Stmt.{Stmt, Row_of-Stmt, end_of-Stmt, more_of-Stmt}
use Rattle.tapa_syntax.specs.declared.program.Stmt.TheVariants.{Set, SetCell, SetCellBy, Store, StoreBy, ReadVar, ReadCell, ReadStore, Write, Open, Close, Discard, Clear, If', Loop', Break, Continue}

-- the memories that an expression loads from are among the first n
abbrev pub LoadsWithin : ℕ → Expr → Type 0
LoadsWithin n (Lit kind v) = Unit {0}
LoadsWithin n (Var x) = Unit {0}
LoadsWithin n (Cell' a p e) = LoadsWithin n e
LoadsWithin n (Read s) = Unit {0}
LoadsWithin n (Peek s) = Unit {0}
LoadsWithin n (Eot s) = Unit {0}
LoadsWithin n (Load' m p e) = (m < n) × LoadsWithin n e
LoadsWithin n (Conv' from to p e) = LoadsWithin n e
LoadsWithin n (Apply' op kind p l q r) = LoadsWithin n l × LoadsWithin n r
LoadsWithin n (Flip' kind p e) = LoadsWithin n e
LoadsWithin n (Not' p e) = LoadsWithin n e
LoadsWithin n (And' p l q r) = LoadsWithin n l × LoadsWithin n r
LoadsWithin n (Or' p l q r) = LoadsWithin n l × LoadsWithin n r
LoadsWithin n (Choose' p c q a r b) = LoadsWithin n c × LoadsWithin n a × LoadsWithin n b

abbrev mutual
  pub AsksStmt : ℕ → Stmt → Type 0
  AsksStmt n (Set x e) = LoadsWithin n e
  AsksStmt n (SetCell a i e) = LoadsWithin n i × LoadsWithin n e
  AsksStmt n (SetCellBy a i op kind e) = LoadsWithin n i × LoadsWithin n e
  AsksStmt n (Store m i e) = (m < n) × LoadsWithin n i × LoadsWithin n e
  AsksStmt n (StoreBy m i op kind e) = (m < n) × LoadsWithin n i × LoadsWithin n e
  AsksStmt n (ReadVar s x) = Unit {0}
  AsksStmt n (ReadCell s a i) = LoadsWithin n i
  AsksStmt n (ReadStore s m i) = (m < n) × LoadsWithin n i
  AsksStmt n (Write s e) = LoadsWithin n e
  AsksStmt n (Open s) = Unit {0}
  AsksStmt n (Close s) = Unit {0}
  AsksStmt n (Discard e) = LoadsWithin n e
  AsksStmt n (Clear a) = Unit {0}
  AsksStmt n (If' e p left q right) = LoadsWithin n e × AsksBlock n left × AsksBlock n right
  AsksStmt n (Loop' e p inner q step) = LoadsWithin n e × AsksBlock n inner × AsksBlock n step
  AsksStmt n Break = Unit {0}
  AsksStmt n Continue = Unit {0}

  pub AsksBlock : {m : _} → ℕ → Row_of-Stmt m → Type 0
  AsksBlock n end_of-Stmt = Unit {0}
  AsksBlock n (more_of-Stmt s rest) = AsksStmt n s × AsksBlock n rest

-- each memory that a leaf's code loads from or stores to is among the first n
abbrev pub AsksCode : ℕ → List Stmt → Type 0
AsksCode n [] = Unit {0}
AsksCode n (s ∷ rest) = AsksStmt n s × AsksCode n rest
