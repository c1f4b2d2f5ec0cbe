-- A leaf reads its `istream` parameters alone and writes its `ostream` parameters alone (TAPA, streams).
use Rattle.std.specs.Prelude.{◌≡◌, ℕ, List, [], ◌∷◌, Bool, true, false, Option, Some}
use Rattle.tapa_syntax.specs.declared.program.Expr.{Expr}
use Rattle.tapa_syntax.specs.declared.program.Expr.TheVariants.{Lit, Var, Cell', Read, Peek, Eot, Load', Conv', Apply', Flip', Not', And', Or', Choose'}
use Rattle.tapa_syntax.specs.declared.program.Stmt.{Stmt, Row_of-Stmt, end_of-Stmt, more_of-Stmt}
use Rattle.tapa_syntax.specs.declared.program.Stmt.TheVariants.{Set, SetCell, SetCellBy, Store, StoreBy, ReadVar, ReadCell, ReadStore, Write, Open, Close, Discard, Clear, If', Loop', Break, Continue}

-- the streams that an expression reads are not written; w says of each position whether its stream is written
abbrev pub UsesExpr : (ℕ → Option Bool) → Expr → Type 0
UsesExpr w (Lit kind n) = Unit {0}
UsesExpr w (Var x) = Unit {0}
UsesExpr w (Cell' a p e) = UsesExpr w e
UsesExpr w (Read s) = w s ≡ Some false
UsesExpr w (Peek s) = w s ≡ Some false
UsesExpr w (Eot s) = w s ≡ Some false
UsesExpr w (Load' m p e) = UsesExpr w e
UsesExpr w (Conv' from to p e) = UsesExpr w e
UsesExpr w (Apply' op kind p l q r) = UsesExpr w l × UsesExpr w r
UsesExpr w (Flip' kind p e) = UsesExpr w e
UsesExpr w (Not' p e) = UsesExpr w e
UsesExpr w (And' p l q r) = UsesExpr w l × UsesExpr w r
UsesExpr w (Or' p l q r) = UsesExpr w l × UsesExpr w r
UsesExpr w (Choose' p c q a r b) = UsesExpr w c × UsesExpr w a × UsesExpr w b

abbrev mutual
  pub UsesStmt : (ℕ → Option Bool) → Stmt → Type 0
  UsesStmt w (Set x e) = UsesExpr w e
  UsesStmt w (SetCell a i e) = UsesExpr w i × UsesExpr w e
  UsesStmt w (SetCellBy a i op kind e) = UsesExpr w i × UsesExpr w e
  UsesStmt w (Store m i e) = UsesExpr w i × UsesExpr w e
  UsesStmt w (StoreBy m i op kind e) = UsesExpr w i × UsesExpr w e
  UsesStmt w (ReadVar s x) = w s ≡ Some false
  UsesStmt w (ReadCell s a i) = (w s ≡ Some false) × UsesExpr w i
  UsesStmt w (ReadStore s m i) = (w s ≡ Some false) × UsesExpr w i
  UsesStmt w (Write s e) = (w s ≡ Some true) × UsesExpr w e
  UsesStmt w (Open s) = w s ≡ Some false
  UsesStmt w (Close s) = w s ≡ Some true
  UsesStmt w (Discard e) = UsesExpr w e
  UsesStmt w (Clear a) = Unit {0}
  UsesStmt w (If' e p left q right) = UsesExpr w e × UsesBlock w left × UsesBlock w right
  UsesStmt w (Loop' e p inner q step) = UsesExpr w e × UsesBlock w inner × UsesBlock w step
  UsesStmt w Break = Unit {0}
  UsesStmt w Continue = Unit {0}

  pub UsesBlock : {m : _} → (ℕ → Option Bool) → Row_of-Stmt m → Type 0
  UsesBlock w end_of-Stmt = Unit {0}
  UsesBlock w (more_of-Stmt s rest) = UsesStmt w s × UsesBlock w rest

abbrev pub UsesCode : (ℕ → Option Bool) → List Stmt → Type 0
UsesCode w [] = Unit {0}
UsesCode w (s ∷ rest) = UsesStmt w s × UsesCode w rest
