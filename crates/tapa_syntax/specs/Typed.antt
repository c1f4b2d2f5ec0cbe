-- The kind of each expression of a leaf, with every conversion written out (ISO C++ [conv], [expr]).
use Rattle.std.specs.Prelude.{◌≡◌, ℕ, zero, suc, ◌-◌, ◌*◌, ◌^◌, ◌<◌, List, [], ◌∷◌}
use Rattle.tapa_base.specs.declared.kind.Kind.{Kind}
use Rattle.tapa_base.specs.declared.kind.Kind.TheVariants as kind
use Rattle.tapa_base.specs.declared.op.Op.{Op}
use Rattle.tapa_base.specs.declared.op.Op.TheVariants as op
use Rattle.tapa_base.specs.Kinds.{bits_of, values_of, converted}
use Rattle.tapa_base.specs.Operators.{applied}
pub use Rattle.tapa_base.specs.Operators.{right_kind}
use Rattle.tapa_syntax.specs.declared.program.Expr.{Expr}
use Rattle.tapa_syntax.specs.declared.program.Expr.TheVariants.{Lit, Var, Cell', Read, Peek, Eot, Load', Conv', Apply', Flip', Not', And', Or', Choose'}
use Rattle.tapa_syntax.specs.declared.program.Stmt.{Stmt, Row_of-Stmt, end_of-Stmt, more_of-Stmt}
use Rattle.tapa_syntax.specs.declared.program.Stmt.TheVariants.{Set, SetCell, SetCellBy, Store, StoreBy, ReadVar, ReadCell, ReadStore, Write, Open, Close, Discard, Clear, If', Loop', Break, Continue}
use Rattle.tapa_syntax.specs.LeafKinds.{Kinds}

-- the kind of what an operator gives: a comparison gives a bool
abbrev pub result_kind : Op → Kind → Kind
result_kind op.Eq k = kind.Bool
result_kind op.Ne k = kind.Bool
result_kind op.Lt k = kind.Bool
result_kind op.Le k = kind.Bool
result_kind op.Gt k = kind.Bool
result_kind op.Ge k = kind.Bool
result_kind o k = k

-- the first where the number is 0, and else the second
abbrev pub by_zero : ℕ → ℕ → ℕ → ℕ
by_zero zero a b = a
by_zero (suc n) a b = b

-- the value of an expression of literals, operators and conversions alone
abbrev pub constant : Expr → ℕ
constant (Lit k n) = n
constant (Conv' from to p e) = converted from to (constant e)
constant (Apply' o k p l q r) = applied o k (constant l) (constant r)
constant (Flip' k p e) = 2 ^ bits_of k - 1 - constant e
constant (Not' p e) = 1 - constant e
constant (And' p l q r) = constant l * constant r
constant (Or' p l q r) = 1 - (1 - constant l) * (1 - constant r)
constant (Choose' p e q a r b) = by_zero (constant e) (constant b) (constant a)
constant _ = 0

abbrev pub IsConstant : Expr → Type 0
IsConstant (Lit k n) = Unit {0}
IsConstant (Conv' from to p e) = IsConstant e
IsConstant (Apply' o k p l q r) = IsConstant l × IsConstant r
IsConstant (Flip' k p e) = IsConstant e
IsConstant (Not' p e) = IsConstant e
IsConstant (And' p l q r) = IsConstant l × IsConstant r
IsConstant (Or' p l q r) = IsConstant l × IsConstant r
IsConstant (Choose' p e q a r b) = IsConstant e × IsConstant a × IsConstant b
IsConstant _ = ⊥

-- a divisor is a constant other than 0
abbrev pub MayDivide : Op → Expr → Type 0
MayDivide op.Div e = IsConstant e × (0 < constant e)
MayDivide op.Rem e = IsConstant e × (0 < constant e)
MayDivide o e = Unit {0}

-- an expression of a leaf with these kinds has this kind
abbrev pub HasKind : Kinds → Expr → Kind → Type 0
HasKind K (Lit j n) k = (j ≡ k) × (n < values_of k)
HasKind K (Var x) k = K.vars x ≡ k
HasKind K (Cell' a p i) k = (K.arrays a ≡ k) × HasKind K i kind.U64
HasKind K (Read s) k = K.streams s ≡ k
HasKind K (Peek s) k = K.streams s ≡ k
HasKind K (Eot s) k = kind.Bool ≡ k
HasKind K (Load' m p i) k = (K.memories m ≡ k) × HasKind K i kind.U64
HasKind K (Conv' from to p e) k = (to ≡ k) × HasKind K e from
HasKind K (Apply' o j p l q r) k = (result_kind o j ≡ k) × HasKind K l j × HasKind K r (right_kind o j) × MayDivide o r
HasKind K (Flip' j p e) k = (j ≡ k) × HasKind K e j
HasKind K (Not' p e) k = (kind.Bool ≡ k) × HasKind K e kind.Bool
HasKind K (And' p l q r) k = (kind.Bool ≡ k) × HasKind K l kind.Bool × HasKind K r kind.Bool
HasKind K (Or' p l q r) k = (kind.Bool ≡ k) × HasKind K l kind.Bool × HasKind K r kind.Bool
HasKind K (Choose' p e q a r b) k = HasKind K e kind.Bool × HasKind K a k × HasKind K b k

-- an expression has some kind
abbrev pub HasSomeKind : Kinds → Expr → Type 0
HasSomeKind K e = (k : Kind) × HasKind K e k

-- each value that a statement sets, stores, writes or tests has the kind of its target
abbrev mutual
  pub IsTyped : Kinds → Stmt → Type 0
  IsTyped K (Set x e) = HasKind K e (K.vars x)
  IsTyped K (SetCell a i e) = HasKind K i kind.U64 × HasKind K e (K.arrays a)
  IsTyped K (SetCellBy a i o k e) = HasKind K i kind.U64 × HasKind K e (right_kind o k) × MayDivide o e
  IsTyped K (Store m i e) = HasKind K i kind.U64 × HasKind K e (K.memories m)
  IsTyped K (StoreBy m i o k e) = HasKind K i kind.U64 × HasKind K e (right_kind o k) × MayDivide o e
  IsTyped K (ReadVar s x) = Unit {0}
  IsTyped K (ReadCell s a i) = HasKind K i kind.U64
  IsTyped K (ReadStore s m i) = HasKind K i kind.U64
  IsTyped K (Write s e) = HasKind K e (K.streams s)
  IsTyped K (Open s) = Unit {0}
  IsTyped K (Close s) = Unit {0}
  IsTyped K (Discard e) = HasSomeKind K e
  IsTyped K (Clear a) = Unit {0}
  IsTyped K (If' e p left q right) = HasKind K e kind.Bool × AreTyped K left × AreTyped K right
  IsTyped K (Loop' e p body q step) = HasKind K e kind.Bool × AreTyped K body × AreTyped K step
  IsTyped K Break = Unit {0}
  IsTyped K Continue = Unit {0}

  pub AreTyped : {m : _} → Kinds → Row_of-Stmt m → Type 0
  AreTyped K end_of-Stmt = Unit {0}
  AreTyped K (more_of-Stmt s rest) = IsTyped K s × AreTyped K rest

abbrev pub IsTypedCode : Kinds → List Stmt → Type 0
IsTypedCode K [] = Unit {0}
IsTypedCode K (s ∷ rest) = IsTyped K s × IsTypedCode K rest
