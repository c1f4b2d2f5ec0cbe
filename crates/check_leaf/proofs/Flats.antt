-- The flat code of a legal leaf: what holds of its plain data holds of the code in memory.
use Rattle.std.proofs.Common.{◌≡◌, ◌<◌, ◌-◌, ◌*◌, ◌^◌, ℕ, zero, suc, List, [], ◌∷◌, length, map, Bool, true, false, Some, refl, sym, ap, subst, ◌∙◌, arith}
use Rattle.std.specs.Prelude.{option_map, unwrap_or, slice_get, slice_index_or, if◌then◌else◌, ◌==◌}
use Rattle.std.proofs.lemmas.Bool.{ne_eqb}
use Rattle.std.proofs.lemmas.Option.{slice_get_within, get_or_from_slice_get}
use Rattle.tapa_base.specs.declared.kind.Kind.{Kind}
use Rattle.tapa_base.specs.declared.kind.Kind.TheVariants as kind
use Rattle.tapa_base.specs.declared.op.Op.{Op}
use Rattle.tapa_base.specs.declared.op.Op.TheVariants as op
use Rattle.tapa_base.specs.Kinds.{bits_of, values_of, converted}
use Rattle.tapa_base.specs.Operators.{applied}
use Rattle.tapa_syntax.specs.declared.program.Array.{Array}
use Rattle.tapa_syntax.specs.declared.program.End.{End}
use Rattle.tapa_syntax.specs.declared.program.Expr.{Expr}
use Rattle.tapa_syntax.specs.declared.program.Expr.TheVariants.{Lit, Var, Cell', Read, Peek, Eot, Load', Conv', Apply', Flip', Not', And', Or', Choose'}
use Rattle.tapa_syntax.specs.declared.program.Stmt.{Stmt, Row_of-Stmt, end_of-Stmt, more_of-Stmt}
use Rattle.tapa_syntax.specs.declared.program.Stmt.TheVariants.{Set, SetCell, SetCellBy, Store, StoreBy, ReadVar, ReadCell, ReadStore, Write, Open, Close, Discard, Clear, If', Loop', Break, Continue}
use Rattle.tapa_syntax.specs.LeafKinds.{Kinds, writes_of}
use Rattle.tapa_syntax.specs.StreamUse.{UsesExpr, UsesStmt, UsesBlock, UsesCode}
use Rattle.tapa_syntax.specs.MemoryUse.{LoadsWithin, AsksStmt, AsksBlock, AsksCode}
use Rattle.tapa_syntax.specs.ArrayUse.{In, FitsExpr, FitsStmt, FitsBlock, FitsCode, cleared_by, IsNoJump}
use Rattle.tapa_syntax.specs.Typed.{result_kind, right_kind, by_zero, constant, IsConstant, MayDivide, HasKind, IsTyped, AreTyped, IsTypedCode}
use Rattle.tapa_syntax.specs.Flat.{FlatExpression, literal, variable, cell, read, peek, is_end, load, convert, apply, flip, negation, conjunction, disjunction, choice, FlatStatement, set, set_cell, set_cell_by, store, store_by, read_variable, read_cell, read_store, write, take_end, put_end, discard, clear, branch, loop, break, continue, FlatStatements, no_statement, statement_then, flat_expression, flat_statement, flat_row, FlatLeaf}
use Rattle.check_expression.specs.Expressions.{constant_value}

-- ---- what a leaf declares

abbrev pub kinds_in : FlatLeaf → Kinds
kinds_in W = record {
  vars = λ x. slice_index_or W.vars x kind.U64;
  arrays = λ a. unwrap_or (option_map (λ (r : Array). r.kind) (slice_get W.arrays a)) kind.U64;
  memories = λ m. slice_index_or W.memories m kind.U64;
  streams = λ p. unwrap_or (option_map (λ (e : End). e.kind) (slice_get W.streams p)) kind.U64;
}

-- a stream, read or written, of a kind
abbrev pub IsEnd : FlatLeaf → Bool → ℕ → Kind → Type 0
IsEnd W b s k = slice_get W.streams s ≡ Some (record { kind = k; writes = b })

-- an array with cells of a kind
abbrev pub IsArrayOf : FlatLeaf → ℕ → Kind → Type 0
IsArrayOf W a k = option_map (λ (r : Array). r.kind) (slice_get W.arrays a) ≡ Some k

-- a memory of some kind
abbrev pub IsMemory : FlatLeaf → ℕ → Type 0
IsMemory W m = (k : Kind) × (slice_get W.memories m ≡ Some k)

-- ---- constants

abbrev pub IsFlatConstant : FlatExpression → Type 0
IsFlatConstant (literal k n) = Unit {0}
IsFlatConstant (convert from to e) = IsFlatConstant e
IsFlatConstant (apply o k a b) = IsFlatConstant a × IsFlatConstant b
IsFlatConstant (flip k e) = IsFlatConstant e
IsFlatConstant (negation e) = IsFlatConstant e
IsFlatConstant (conjunction a b) = IsFlatConstant a × IsFlatConstant b
IsFlatConstant (disjunction a b) = IsFlatConstant a × IsFlatConstant b
IsFlatConstant (choice c a b) = IsFlatConstant c × IsFlatConstant a × IsFlatConstant b
IsFlatConstant _ = ⊥

same_constant : (e : Expr) → IsFlatConstant (flat_expression e) → IsConstant e
same_constant (Lit k n) g = tt
same_constant (Conv' from to p e) g = same_constant e g
same_constant (Apply' o k p l q r) (a, b) = (same_constant l a, same_constant r b)
same_constant (Flip' k p e) g = same_constant e g
same_constant (Not' p e) g = same_constant e g
same_constant (And' p l q r) (a, b) = (same_constant l a, same_constant r b)
same_constant (Or' p l q r) (a, b) = (same_constant l a, same_constant r b)
same_constant (Choose' p e q a r b) (x, y, z) = (same_constant e x, same_constant a y, same_constant b z)
same_constant _ g = absurd g

two : (f : ℕ → ℕ → ℕ) (a b c d : ℕ) → a ≡ b → c ≡ d → f a c ≡ f b d
two f a b c d h k = ap (λ x. f x c) h ∙ ap (f b) k

zero_is : (n a b : ℕ) → by_zero n a b ≡ (if n == 0 then a else b)
zero_is zero a b = refl
zero_is (suc n) a b = sym (ap (λ c. if c then a else b) (ne_eqb (suc n) 0 (λ h. omega arith)))

constant_is : (e : Expr) → constant e ≡ constant_value (flat_expression e)
constant_is (Lit k n) = refl
constant_is (Conv' from to p e) = ap (converted from to) (constant_is e)
constant_is (Apply' o k p l q r) = two (applied o k) _ _ _ _ (constant_is l) (constant_is r)
constant_is (Flip' k p e) = ap (λ n. 2 ^ bits_of k - 1 - n) (constant_is e)
constant_is (Not' p e) = ap (λ n. 1 - n) (constant_is e)
constant_is (And' p l q r) = two (λ m n. m * n) _ _ _ _ (constant_is l) (constant_is r)
constant_is (Or' p l q r) = two (λ m n. 1 - (1 - m) * (1 - n)) _ _ _ _ (constant_is l) (constant_is r)
constant_is (Choose' p e q a r b) =
    zero_is (constant e) (constant b) (constant a)
    ∙ ap (λ n. if n == 0 then constant b else constant a) (constant_is e)
    ∙ two (λ m n. if constant_value (flat_expression e) == 0 then m else n) _ _ _ _ (constant_is b) (constant_is a)
constant_is (Var x) = refl
constant_is (Cell' a p e) = refl
constant_is (Read s) = refl
constant_is (Peek s) = refl
constant_is (Eot s) = refl
constant_is (Load' m p e) = refl

abbrev pub MayDivideBy : Op → FlatExpression → Type 0
MayDivideBy op.Div e = IsFlatConstant e × (0 < constant_value e)
MayDivideBy op.Rem e = IsFlatConstant e × (0 < constant_value e)
MayDivideBy o e = Unit {0}

may_divide : (o : Op) (e : Expr) → MayDivideBy o (flat_expression e) → MayDivide o e
may_divide op.Div e (c, p) = (same_constant e c, subst (λ n. 0 < n) (sym (constant_is e)) p)
may_divide op.Rem e (c, p) = (same_constant e c, subst (λ n. 0 < n) (sym (constant_is e)) p)
may_divide _ e g = tt

-- ---- expressions

-- an expression of a leaf that has a kind where these arrays are cleared
abbrev pub IsValue : FlatLeaf → List ℕ → FlatExpression → Kind → Type 0
IsValue W S (literal j n) k = (j ≡ k) × (n < values_of k)
IsValue W S (variable x) k = slice_get W.vars x ≡ Some k
IsValue W S (cell a i) k = In a S × IsArrayOf W a k × IsValue W S i kind.U64
IsValue W S (read s) k = IsEnd W false s k
IsValue W S (peek s) k = IsEnd W false s k
IsValue W S (is_end s) k = (j : Kind) × IsEnd W false s j × (kind.Bool ≡ k)
IsValue W S (load m i) k = (slice_get W.memories m ≡ Some k) × IsValue W S i kind.U64
IsValue W S (convert from to e) k = (to ≡ k) × IsValue W S e from
IsValue W S (apply o j a b) k = (result_kind o j ≡ k) × IsValue W S a j × IsValue W S b (right_kind o j) × MayDivideBy o b
IsValue W S (flip j e) k = (j ≡ k) × IsValue W S e j
IsValue W S (negation e) k = (kind.Bool ≡ k) × IsValue W S e kind.Bool
IsValue W S (conjunction a b) k = (kind.Bool ≡ k) × IsValue W S a kind.Bool × IsValue W S b kind.Bool
IsValue W S (disjunction a b) k = (kind.Bool ≡ k) × IsValue W S a kind.Bool × IsValue W S b kind.Bool
IsValue W S (choice c a b) k = IsValue W S c kind.Bool × IsValue W S a k × IsValue W S b k

is_used : (W : FlatLeaf) (b : Bool) (s : ℕ) (k : Kind) → IsEnd W b s k → writes_of W.streams s ≡ Some b
is_used W b s k h = ap (option_map (λ (e : End). e.writes)) h

is_kind : (W : FlatLeaf) (b : Bool) (s : ℕ) (k : Kind) → IsEnd W b s k → (kinds_in W).streams s ≡ k
is_kind W b s k h = ap (λ o. unwrap_or (option_map (λ (e : End). e.kind) o) kind.U64) h

array_kind : (W : FlatLeaf) (a : ℕ) (k : Kind) → IsArrayOf W a k → (kinds_in W).arrays a ≡ k
array_kind W a k h = ap (λ o. unwrap_or o kind.U64) h

kind_at : (ks : List Kind) (x : ℕ) (k : Kind) → slice_get ks x ≡ Some k → slice_index_or ks x kind.U64 ≡ k
kind_at ks x k h = get_or_from_slice_get ks x k kind.U64 h

pub value_uses : (W : FlatLeaf) (S : List ℕ) (e : Expr) (k : Kind) → IsValue W S (flat_expression e) k → UsesExpr (writes_of W.streams) e
value_uses W S (Lit j n) k g = tt
value_uses W S (Var x) k g = tt
value_uses W S (Cell' a p i) k (x, y, g) = value_uses W S i kind.U64 g
value_uses W S (Read s) k g = is_used W false s k g
value_uses W S (Peek s) k g = is_used W false s k g
value_uses W S (Eot s) k (j, g, h) = is_used W false s j g
value_uses W S (Load' m p i) k (x, g) = value_uses W S i kind.U64 g
value_uses W S (Conv' from to p e) k (h, g) = value_uses W S e from g
value_uses W S (Apply' o j p l q r) k (h, a, b, d) = (value_uses W S l j a, value_uses W S r (right_kind o j) b)
value_uses W S (Flip' j p e) k (h, g) = value_uses W S e j g
value_uses W S (Not' p e) k (h, g) = value_uses W S e kind.Bool g
value_uses W S (And' p l q r) k (h, a, b) = (value_uses W S l kind.Bool a, value_uses W S r kind.Bool b)
value_uses W S (Or' p l q r) k (h, a, b) = (value_uses W S l kind.Bool a, value_uses W S r kind.Bool b)
value_uses W S (Choose' p e q a r b) k (x, y, z) = (value_uses W S e kind.Bool x, value_uses W S a k y, value_uses W S b k z)

pub value_fits : (W : FlatLeaf) (S : List ℕ) (e : Expr) (k : Kind) → IsValue W S (flat_expression e) k → FitsExpr (length W.vars) S e
value_fits W S (Lit j n) k g = tt
value_fits W S (Var x) k g = slice_get_within W.vars x k g
value_fits W S (Cell' a p i) k (x, y, g) = (x, value_fits W S i kind.U64 g)
value_fits W S (Read s) k g = tt
value_fits W S (Peek s) k g = tt
value_fits W S (Eot s) k g = tt
value_fits W S (Load' m p i) k (x, g) = value_fits W S i kind.U64 g
value_fits W S (Conv' from to p e) k (h, g) = value_fits W S e from g
value_fits W S (Apply' o j p l q r) k (h, a, b, d) = (value_fits W S l j a, value_fits W S r (right_kind o j) b)
value_fits W S (Flip' j p e) k (h, g) = value_fits W S e j g
value_fits W S (Not' p e) k (h, g) = value_fits W S e kind.Bool g
value_fits W S (And' p l q r) k (h, a, b) = (value_fits W S l kind.Bool a, value_fits W S r kind.Bool b)
value_fits W S (Or' p l q r) k (h, a, b) = (value_fits W S l kind.Bool a, value_fits W S r kind.Bool b)
value_fits W S (Choose' p e q a r b) k (x, y, z) = (value_fits W S e kind.Bool x, value_fits W S a k y, value_fits W S b k z)

value_asks : (W : FlatLeaf) (S : List ℕ) (e : Expr) (k : Kind) → IsValue W S (flat_expression e) k → LoadsWithin (length W.memories) e
value_asks W S (Lit j n) k g = tt
value_asks W S (Var x) k g = tt
value_asks W S (Cell' a p i) k (x, y, g) = value_asks W S i kind.U64 g
value_asks W S (Read s) k g = tt
value_asks W S (Peek s) k g = tt
value_asks W S (Eot s) k g = tt
value_asks W S (Load' m p i) k (x, g) = (slice_get_within W.memories m k x, value_asks W S i kind.U64 g)
value_asks W S (Conv' from to p e) k (h, g) = value_asks W S e from g
value_asks W S (Apply' o j p l q r) k (h, a, b, d) = (value_asks W S l j a, value_asks W S r (right_kind o j) b)
value_asks W S (Flip' j p e) k (h, g) = value_asks W S e j g
value_asks W S (Not' p e) k (h, g) = value_asks W S e kind.Bool g
value_asks W S (And' p l q r) k (h, a, b) = (value_asks W S l kind.Bool a, value_asks W S r kind.Bool b)
value_asks W S (Or' p l q r) k (h, a, b) = (value_asks W S l kind.Bool a, value_asks W S r kind.Bool b)
value_asks W S (Choose' p e q a r b) k (x, y, z) = (value_asks W S e kind.Bool x, value_asks W S a k y, value_asks W S b k z)

pub value_kind : (W : FlatLeaf) (S : List ℕ) (e : Expr) (k : Kind) → IsValue W S (flat_expression e) k → HasKind (kinds_in W) e k
value_kind W S (Lit j n) k g = g
value_kind W S (Var x) k g = kind_at W.vars x k g
value_kind W S (Cell' a p i) k (x, y, g) = (array_kind W a k y, value_kind W S i kind.U64 g)
value_kind W S (Read s) k g = is_kind W false s k g
value_kind W S (Peek s) k g = is_kind W false s k g
value_kind W S (Eot s) k (j, g, h) = h
value_kind W S (Load' m p i) k (x, g) = (kind_at W.memories m k x, value_kind W S i kind.U64 g)
value_kind W S (Conv' from to p e) k (h, g) = (h, value_kind W S e from g)
value_kind W S (Apply' o j p l q r) k (h, a, b, d) = (h, value_kind W S l j a, value_kind W S r (right_kind o j) b, may_divide o r d)
value_kind W S (Flip' j p e) k (h, g) = (h, value_kind W S e j g)
value_kind W S (Not' p e) k (h, g) = (h, value_kind W S e kind.Bool g)
value_kind W S (And' p l q r) k (h, a, b) = (h, value_kind W S l kind.Bool a, value_kind W S r kind.Bool b)
value_kind W S (Or' p l q r) k (h, a, b) = (h, value_kind W S l kind.Bool a, value_kind W S r kind.Bool b)
value_kind W S (Choose' p e q a r b) k (x, y, z) = (value_kind W S e kind.Bool x, value_kind W S a k y, value_kind W S b k z)

-- ---- statements

-- a value of the kind that something has
abbrev pub Given : FlatLeaf → List ℕ → FlatExpression → (Kind → Type 0) → Type 0
Given W S e P = (k : Kind) × P k × IsValue W S e k

-- the arrays that are cleared behind a statement
abbrev pub clears : FlatStatement → List ℕ → List ℕ
clears (clear a) S = a ∷ S
clears _ S = S

abbrev mutual
  pub IsStep : FlatLeaf → List ℕ → FlatStatement → Type 0
  IsStep W S (set x e) = Given W S e (λ k. slice_get W.vars x ≡ Some k)
  IsStep W S (set_cell a i e) = In a S × IsValue W S i kind.U64 × Given W S e (IsArrayOf W a)
  IsStep W S (set_cell_by a i o k e) = In a S × IsValue W S i kind.U64 × IsValue W S e (right_kind o k) × MayDivideBy o e
  IsStep W S (store m i e) = IsValue W S i kind.U64 × Given W S e (λ k. slice_get W.memories m ≡ Some k)
  IsStep W S (store_by m i o k e) = IsMemory W m × IsValue W S i kind.U64 × IsValue W S e (right_kind o k) × MayDivideBy o e
  IsStep W S (read_variable s x) = (j : Kind) × IsEnd W false s j × ((k : Kind) × (slice_get W.vars x ≡ Some k))
  IsStep W S (read_cell s a i) = (j : Kind) × IsEnd W false s j × In a S × IsValue W S i kind.U64
  IsStep W S (read_store s m i) = (j : Kind) × IsEnd W false s j × IsMemory W m × IsValue W S i kind.U64
  IsStep W S (write s e) = Given W S e (IsEnd W true s)
  IsStep W S (take_end s) = (k : Kind) × IsEnd W false s k
  IsStep W S (put_end s) = (k : Kind) × IsEnd W true s k
  IsStep W S (discard e) = (k : Kind) × IsValue W S e k
  IsStep W S (clear a) = (r : Array) × (slice_get W.arrays a ≡ Some r)
  IsStep W S (branch e left right) = IsValue W S e kind.Bool × AreSteps W S left × AreSteps W S right
  IsStep W S (loop e body step) = IsValue W S e kind.Bool × AreSteps W S body × AreSteps W S step
  IsStep W S break = Unit {0}
  IsStep W S continue = Unit {0}

  pub AreSteps : FlatLeaf → List ℕ → FlatStatements → Type 0
  AreSteps W S no_statement = Unit {0}
  AreSteps W S (statement_then s rest) = IsStep W S s × AreSteps W (clears s S) rest

-- the same of a list
abbrev pub IsCode : FlatLeaf → List ℕ → List FlatStatement → Type 0
IsCode W S [] = Unit {0}
IsCode W S (s ∷ rest) = IsStep W S s × IsCode W (clears s S) rest

abbrev pub IsStraight : FlatStatement → Type 0
IsStraight break = ⊥
IsStraight continue = ⊥
IsStraight _ = Unit {0}

abbrev pub AreStraight : List FlatStatement → Type 0
AreStraight [] = Unit {0}
AreStraight (s ∷ rest) = IsStraight s × AreStraight rest

same_clears : (s : Stmt) (S : List ℕ) → clears (flat_statement s) S ≡ cleared_by s S
same_clears (Clear a) S = refl
same_clears (Set x e) S = refl
same_clears (SetCell a i e) S = refl
same_clears (SetCellBy a i o k e) S = refl
same_clears (Store m i e) S = refl
same_clears (StoreBy m i o k e) S = refl
same_clears (ReadVar s x) S = refl
same_clears (ReadCell s a i) S = refl
same_clears (ReadStore s m i) S = refl
same_clears (Write s e) S = refl
same_clears (Open s) S = refl
same_clears (Close s) S = refl
same_clears (Discard e) S = refl
same_clears (If' e p l q r) S = refl
same_clears (Loop' e p l q r) S = refl
same_clears Break S = refl
same_clears Continue S = refl

no_jump : (s : Stmt) → IsStraight (flat_statement s) → IsNoJump s
no_jump Break g = absurd g
no_jump Continue g = absurd g
no_jump _ g = tt

mutual
  step_uses : (W : FlatLeaf) (S : List ℕ) (s : Stmt) → IsStep W S (flat_statement s) → UsesStmt (writes_of W.streams) s
  step_uses W S (Set x e) (k, h, g) = value_uses W S e k g
  step_uses W S (SetCell a i e) (n, v, (k, h, g)) = (value_uses W S i kind.U64 v, value_uses W S e k g)
  step_uses W S (SetCellBy a i o k e) (n, v, g, d) = (value_uses W S i kind.U64 v, value_uses W S e (right_kind o k) g)
  step_uses W S (Store m i e) (v, (k, h, g)) = (value_uses W S i kind.U64 v, value_uses W S e k g)
  step_uses W S (StoreBy m i o k e) (x, v, g, d) = (value_uses W S i kind.U64 v, value_uses W S e (right_kind o k) g)
  step_uses W S (ReadVar s x) (j, r, h) = is_used W false s j r
  step_uses W S (ReadCell s a i) (j, r, n, v) = (is_used W false s j r, value_uses W S i kind.U64 v)
  step_uses W S (ReadStore s m i) (j, r, x, v) = (is_used W false s j r, value_uses W S i kind.U64 v)
  step_uses W S (Write s e) (k, h, g) = (is_used W true s k h, value_uses W S e k g)
  step_uses W S (Open s) (k, h) = is_used W false s k h
  step_uses W S (Close s) (k, h) = is_used W true s k h
  step_uses W S (Discard e) (k, g) = value_uses W S e k g
  step_uses W S (Clear a) g = tt
  step_uses W S (If' e p left q right) (t, l, r) = (value_uses W S e kind.Bool t, steps_use W S _ left l, steps_use W S _ right r)
  step_uses W S (Loop' e p body q step) (t, l, r) = (value_uses W S e kind.Bool t, steps_use W S _ body l, steps_use W S _ step r)
  step_uses W S Break g = tt
  step_uses W S Continue g = tt

  steps_use : (W : FlatLeaf) (S : List ℕ) (m : _) (row : Row_of-Stmt m) → AreSteps W S (flat_row row) → UsesBlock (writes_of W.streams) row
  steps_use W S m end_of-Stmt g = tt
  steps_use W S m (more_of-Stmt s rest) (a, g) = (step_uses W S s a, steps_use W (clears (flat_statement s) S) _ rest g)

mutual
  step_fits : (W : FlatLeaf) (S : List ℕ) (s : Stmt) → IsStep W S (flat_statement s) → FitsStmt (length W.vars) (length W.arrays) S s
  step_fits W S (Set x e) (k, h, g) = (slice_get_within W.vars x k h, value_fits W S e k g)
  step_fits W S (SetCell a i e) (n, v, (k, h, g)) = (n, value_fits W S i kind.U64 v, value_fits W S e k g)
  step_fits W S (SetCellBy a i o k e) (n, v, g, d) = (n, value_fits W S i kind.U64 v, value_fits W S e (right_kind o k) g)
  step_fits W S (Store m i e) (v, (k, h, g)) = (value_fits W S i kind.U64 v, value_fits W S e k g)
  step_fits W S (StoreBy m i o k e) (x, v, g, d) = (value_fits W S i kind.U64 v, value_fits W S e (right_kind o k) g)
  step_fits W S (ReadVar s x) (j, r, (k, h)) = slice_get_within W.vars x k h
  step_fits W S (ReadCell s a i) (j, r, n, v) = (n, value_fits W S i kind.U64 v)
  step_fits W S (ReadStore s m i) (j, r, x, v) = value_fits W S i kind.U64 v
  step_fits W S (Write s e) (k, h, g) = value_fits W S e k g
  step_fits W S (Open s) g = tt
  step_fits W S (Close s) g = tt
  step_fits W S (Discard e) (k, g) = value_fits W S e k g
  step_fits W S (Clear a) (r, h) = slice_get_within W.arrays a r h
  step_fits W S (If' e p left q right) (t, l, r) = (value_fits W S e kind.Bool t, steps_fit W S _ left l, steps_fit W S _ right r)
  step_fits W S (Loop' e p body q step) (t, l, r) = (value_fits W S e kind.Bool t, steps_fit W S _ body l, steps_fit W S _ step r)
  step_fits W S Break g = tt
  step_fits W S Continue g = tt

  steps_fit : (W : FlatLeaf) (S : List ℕ) (m : _) (row : Row_of-Stmt m) → AreSteps W S (flat_row row) → FitsBlock (length W.vars) (length W.arrays) S row
  steps_fit W S m end_of-Stmt g = tt
  steps_fit W S m (more_of-Stmt s rest) (a, g) =
      (step_fits W S s a, subst (λ T. FitsBlock (length W.vars) (length W.arrays) T rest) (same_clears s S) (steps_fit W (clears (flat_statement s) S) _ rest g))

in_memory : (W : FlatLeaf) (m : ℕ) → IsMemory W m → m < length W.memories
in_memory W m (k, h) = slice_get_within W.memories m k h

mutual
  step_asks : (W : FlatLeaf) (S : List ℕ) (s : Stmt) → IsStep W S (flat_statement s) → AsksStmt (length W.memories) s
  step_asks W S (Set x e) (k, h, g) = value_asks W S e k g
  step_asks W S (SetCell a i e) (n, v, (k, h, g)) = (value_asks W S i kind.U64 v, value_asks W S e k g)
  step_asks W S (SetCellBy a i o k e) (n, v, g, d) = (value_asks W S i kind.U64 v, value_asks W S e (right_kind o k) g)
  step_asks W S (Store m i e) (v, (k, h, g)) = (slice_get_within W.memories m k h, value_asks W S i kind.U64 v, value_asks W S e k g)
  step_asks W S (StoreBy m i o k e) (x, v, g, d) = (in_memory W m x, value_asks W S i kind.U64 v, value_asks W S e (right_kind o k) g)
  step_asks W S (ReadVar s x) g = tt
  step_asks W S (ReadCell s a i) (j, r, n, v) = value_asks W S i kind.U64 v
  step_asks W S (ReadStore s m i) (j, r, x, v) = (in_memory W m x, value_asks W S i kind.U64 v)
  step_asks W S (Write s e) (k, h, g) = value_asks W S e k g
  step_asks W S (Open s) g = tt
  step_asks W S (Close s) g = tt
  step_asks W S (Discard e) (k, g) = value_asks W S e k g
  step_asks W S (Clear a) g = tt
  step_asks W S (If' e p left q right) (t, l, r) = (value_asks W S e kind.Bool t, steps_ask W S _ left l, steps_ask W S _ right r)
  step_asks W S (Loop' e p body q step) (t, l, r) = (value_asks W S e kind.Bool t, steps_ask W S _ body l, steps_ask W S _ step r)
  step_asks W S Break g = tt
  step_asks W S Continue g = tt

  steps_ask : (W : FlatLeaf) (S : List ℕ) (m : _) (row : Row_of-Stmt m) → AreSteps W S (flat_row row) → AsksBlock (length W.memories) row
  steps_ask W S m end_of-Stmt g = tt
  steps_ask W S m (more_of-Stmt s rest) (a, g) = (step_asks W S s a, steps_ask W (clears (flat_statement s) S) _ rest g)

mutual
  step_typed : (W : FlatLeaf) (S : List ℕ) (s : Stmt) → IsStep W S (flat_statement s) → IsTyped (kinds_in W) s
  step_typed W S (Set x e) (k, h, g) = subst (HasKind (kinds_in W) e) (sym (kind_at W.vars x k h)) (value_kind W S e k g)
  step_typed W S (SetCell a i e) (n, v, (k, h, g)) = (value_kind W S i kind.U64 v, subst (HasKind (kinds_in W) e) (sym (array_kind W a k h)) (value_kind W S e k g))
  step_typed W S (SetCellBy a i o k e) (n, v, g, d) = (value_kind W S i kind.U64 v, value_kind W S e (right_kind o k) g, may_divide o e d)
  step_typed W S (Store m i e) (v, (k, h, g)) = (value_kind W S i kind.U64 v, subst (HasKind (kinds_in W) e) (sym (kind_at W.memories m k h)) (value_kind W S e k g))
  step_typed W S (StoreBy m i o k e) (x, v, g, d) = (value_kind W S i kind.U64 v, value_kind W S e (right_kind o k) g, may_divide o e d)
  step_typed W S (ReadVar s x) g = tt
  step_typed W S (ReadCell s a i) (j, r, n, v) = value_kind W S i kind.U64 v
  step_typed W S (ReadStore s m i) (j, r, x, v) = value_kind W S i kind.U64 v
  step_typed W S (Write s e) (k, h, g) = subst (HasKind (kinds_in W) e) (sym (is_kind W true s k h)) (value_kind W S e k g)
  step_typed W S (Open s) g = tt
  step_typed W S (Close s) g = tt
  step_typed W S (Discard e) (k, g) = (k, value_kind W S e k g)
  step_typed W S (Clear a) g = tt
  step_typed W S (If' e p left q right) (t, l, r) = (value_kind W S e kind.Bool t, steps_typed W S _ left l, steps_typed W S _ right r)
  step_typed W S (Loop' e p body q step) (t, l, r) = (value_kind W S e kind.Bool t, steps_typed W S _ body l, steps_typed W S _ step r)
  step_typed W S Break g = tt
  step_typed W S Continue g = tt

  steps_typed : (W : FlatLeaf) (S : List ℕ) (m : _) (row : Row_of-Stmt m) → AreSteps W S (flat_row row) → AreTyped (kinds_in W) row
  steps_typed W S m end_of-Stmt g = tt
  steps_typed W S m (more_of-Stmt s rest) (a, g) = (step_typed W S s a, steps_typed W (clears (flat_statement s) S) _ rest g)

-- ---- code

pub code_uses : (W : FlatLeaf) (S : List ℕ) (ss : List Stmt) → IsCode W S (map flat_statement ss) → UsesCode (writes_of W.streams) ss
code_uses W S [] g = tt
code_uses W S (s ∷ ss) (a, g) = (step_uses W S s a, code_uses W (clears (flat_statement s) S) ss g)

pub code_fits : (W : FlatLeaf) (S : List ℕ) (ss : List Stmt) → AreStraight (map flat_statement ss) → IsCode W S (map flat_statement ss) → FitsCode (length W.vars) (length W.arrays) S ss
code_fits W S [] j g = tt
code_fits W S (s ∷ ss) (i, j) (a, g) =
    (no_jump s i, step_fits W S s a, subst (λ T. FitsCode (length W.vars) (length W.arrays) T ss) (same_clears s S) (code_fits W (clears (flat_statement s) S) ss j g))

pub code_asks : (W : FlatLeaf) (S : List ℕ) (ss : List Stmt) → IsCode W S (map flat_statement ss) → AsksCode (length W.memories) ss
code_asks W S [] g = tt
code_asks W S (s ∷ ss) (a, g) = (step_asks W S s a, code_asks W (clears (flat_statement s) S) ss g)

pub code_typed : (W : FlatLeaf) (S : List ℕ) (ss : List Stmt) → IsCode W S (map flat_statement ss) → IsTypedCode (kinds_in W) ss
code_typed W S [] g = tt
code_typed W S (s ∷ ss) (a, g) = (step_typed W S s a, code_typed W (clears (flat_statement s) S) ss g)
