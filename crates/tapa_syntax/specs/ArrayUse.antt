-- A leaf uses its own variables and arrays, and an array only after its declaration, which clears it (ISO C++
-- [basic.scope.block], [dcl.init]).
use Rattle.std.specs.Prelude.{◌≡◌, ◌⊎◌, ℕ, ◌<◌, List, [], ◌∷◌}
use Rattle.tapa_syntax.specs.declared.program.Expr.{Expr}
use Rattle.tapa_syntax.specs.declared.program.Expr.TheVariants.{Lit, Var, Cell', Read, Peek, Eot, Load', Conv', Apply', Flip', Not', And', Or', Choose'}
use Rattle.tapa_syntax.specs.declared.program.Stmt.{Stmt, Row_of-Stmt, end_of-Stmt, more_of-Stmt}
use Rattle.tapa_syntax.specs.declared.program.Stmt.TheVariants.{Set, SetCell, SetCellBy, Store, StoreBy, ReadVar, ReadCell, ReadStore, Write, Open, Close, Discard, Clear, If', Loop', Break, Continue}

-- a number is in a list
abbrev pub In : ℕ → List ℕ → Type 0
In a [] = ⊥
In a (x ∷ xs) = (a ≡ x) ⊎ In a xs

-- an expression reads only the first c variables and cells of the arrays in S
abbrev pub FitsExpr : ℕ → List ℕ → Expr → Type 0
FitsExpr c S (Lit kind n) = Unit {0}
FitsExpr c S (Var x) = x < c
FitsExpr c S (Cell' a p e) = In a S × FitsExpr c S e
FitsExpr c S (Read s) = Unit {0}
FitsExpr c S (Peek s) = Unit {0}
FitsExpr c S (Eot s) = Unit {0}
FitsExpr c S (Load' m p e) = FitsExpr c S e
FitsExpr c S (Conv' source target p e) = FitsExpr c S e
FitsExpr c S (Apply' op kind p l q r) = FitsExpr c S l × FitsExpr c S r
FitsExpr c S (Flip' kind p e) = FitsExpr c S e
FitsExpr c S (Not' p e) = FitsExpr c S e
FitsExpr c S (And' p l q r) = FitsExpr c S l × FitsExpr c S r
FitsExpr c S (Or' p l q r) = FitsExpr c S l × FitsExpr c S r
FitsExpr c S (Choose' p e q a r b) = FitsExpr c S e × FitsExpr c S a × FitsExpr c S b

-- the arrays that are cleared after a statement
abbrev pub cleared_by : Stmt → List ℕ → List ℕ
cleared_by (Clear a) S = a ∷ S
cleared_by _ S = S

abbrev mutual
  pub FitsStmt : ℕ → ℕ → List ℕ → Stmt → Type 0
  FitsStmt c n S (Set x e) = (x < c) × FitsExpr c S e
  FitsStmt c n S (SetCell a i e) = In a S × FitsExpr c S i × FitsExpr c S e
  FitsStmt c n S (SetCellBy a i op kind e) = In a S × FitsExpr c S i × FitsExpr c S e
  FitsStmt c n S (Store m i e) = FitsExpr c S i × FitsExpr c S e
  FitsStmt c n S (StoreBy m i op kind e) = FitsExpr c S i × FitsExpr c S e
  FitsStmt c n S (ReadVar s x) = x < c
  FitsStmt c n S (ReadCell s a i) = In a S × FitsExpr c S i
  FitsStmt c n S (ReadStore s m i) = FitsExpr c S i
  FitsStmt c n S (Write s e) = FitsExpr c S e
  FitsStmt c n S (Open s) = Unit {0}
  FitsStmt c n S (Close s) = Unit {0}
  FitsStmt c n S (Discard e) = FitsExpr c S e
  FitsStmt c n S (Clear a) = a < n
  FitsStmt c n S (If' e p left q right) = FitsExpr c S e × FitsBlock c n S left × FitsBlock c n S right
  FitsStmt c n S (Loop' e p body q step) = FitsExpr c S e × FitsBlock c n S body × FitsBlock c n S step
  FitsStmt c n S Break = Unit {0}
  FitsStmt c n S Continue = Unit {0}

  pub FitsBlock : {m : _} → ℕ → ℕ → List ℕ → Row_of-Stmt m → Type 0
  FitsBlock c n S end_of-Stmt = Unit {0}
  FitsBlock c n S (more_of-Stmt s rest) = FitsStmt c n S s × FitsBlock c n (cleared_by s S) rest

-- no break and no continue is outside of a loop's or a choice's statements
abbrev pub IsNoJump : Stmt → Type 0
IsNoJump Break = ⊥
IsNoJump Continue = ⊥
IsNoJump _ = Unit {0}

abbrev pub FitsCode : ℕ → ℕ → List ℕ → List Stmt → Type 0
FitsCode c n S [] = Unit {0}
FitsCode c n S (s ∷ rest) = IsNoJump s × FitsStmt c n S s × FitsCode c n (cleared_by s S) rest
