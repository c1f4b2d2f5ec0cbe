-- The job of a leaf body: a recursion on its statements (ISO C++ [stmt.stmt], [expr]; TAPA, streams and memories).
-- Operands are evaluated from left to right, an operation's index before it, and a value before the index that it is
-- assigned to; where C++ leaves the order open, this one is taken.
use Rattle.std.specs.Prelude.{ℕ, zero, suc, ◌-◌, ◌*◌, ◌^◌, List, [], ◌∷◌, length, replicate, slice_index, slice_index_or, slice_set}
use Rattle.tapa_base.specs.declared.token.Token.TheVariants.{Datum, Eot as EotToken}
use Rattle.tapa_base.specs.Kinds.{bits_of, converted}
use Rattle.tapa_base.specs.Operators.{applied}
use Rattle.tapa_syntax.specs.declared.program.Expr.{Expr}
use Rattle.tapa_syntax.specs.declared.program.Expr.TheVariants.{Lit, Var, Cell', Read, Peek, Eot, Load' as LoadCell, Conv', Apply', Flip', Not', And', Or', Choose'}
use Rattle.tapa_syntax.specs.declared.program.Stmt.{Stmt, Row_of-Stmt, end_of-Stmt, more_of-Stmt}
use Rattle.tapa_syntax.specs.declared.program.Stmt.TheVariants.{Set, SetCell, SetCellBy, Store as StoreCell, StoreBy, ReadVar, ReadCell, ReadStore, Write, Open as OpenIt}
use Rattle.tapa_syntax.specs.declared.program.Stmt.TheVariants.{Close, Discard, Clear, If', Loop', Break, Continue}
use Rattle.tapa_syntax.specs.LeafKinds.{Kinds}
use Rattle.kahn_model.specs.Behavior.{Action, Local, Put, Load, Store, Read as ByRead, Peek as ByPeek, TestEot, Open as ByOpen, Behavior, Finished, OutOfTurns, Act, Await}

-- what a job keeps: its variables, its arrays and the cells of its memories
pub record State : Type 0 where
  pub vars : List ℕ
  pub arrays : List (List ℕ)
  pub cells : List (List ℕ)

-- the first where the number is 0, and else the second
abbrev pub at_zero : {A : Type 0} → ℕ → A → A → A
at_zero zero a b = a
at_zero (suc n) a b = b

-- a cell, or 0 past the end, where a write is dropped
abbrev pub cell : List (List ℕ) → ℕ → ℕ → ℕ
cell rows r i = slice_index (slice_index_or rows r []) i

abbrev pub with_cell : List (List ℕ) → ℕ → ℕ → ℕ → List (List ℕ)
with_cell rows r i v = slice_set rows r (slice_set (slice_index_or rows r []) i v)

abbrev pub set_var : State → ℕ → ℕ → State
set_var σ x v = record σ { vars = slice_set σ.vars x v }

abbrev pub set_cell : State → ℕ → ℕ → ℕ → State
set_cell σ a i v = record σ { arrays = with_cell σ.arrays a i v }

abbrev pub store_cell : State → ℕ → ℕ → ℕ → State
store_cell σ m i v = record σ { cells = with_cell σ.cells m i v }

abbrev pub cells_of : State → ℕ → ℕ
cells_of σ a = length (slice_index_or σ.arrays a [])

abbrev pub cleared : State → ℕ → State
cleared σ a = record σ { arrays = slice_set σ.arrays a (replicate (cells_of σ a) 0) }

-- an expression's operations, from left to right, and then what goes on with its value
abbrev pub expr : Expr → State → (ℕ → Behavior) → Behavior
expr (Lit kind n) σ go = go n
expr (Var x) σ go = go (slice_index σ.vars x)
expr (Cell' a p e) σ go = expr e σ (λ i. go (cell σ.arrays a i))
expr (Read s) σ go = Await s ByRead go
expr (Peek s) σ go = Await s ByPeek go
expr (Eot s) σ go = Await s TestEot go
expr (LoadCell m p e) σ go = expr e σ (λ i. Act (Load m i) (go (cell σ.cells m i)))
expr (Conv' from to p e) σ go = expr e σ (λ v. go (converted from to v))
expr (Apply' op kind p l q r) σ go = expr l σ (λ a. expr r σ (λ b. go (applied op kind a b)))
expr (Flip' kind p e) σ go = expr e σ (λ v. go (2 ^ bits_of kind - 1 - v))
expr (Not' p e) σ go = expr e σ (λ v. go (1 - v))
expr (And' p l q r) σ go = expr l σ (λ a. expr r σ (λ b. go (a * b)))
expr (Or' p l q r) σ go = expr l σ (λ a. expr r σ (λ b. go (1 - (1 - a) * (1 - b))))
expr (Choose' p e q a r b) σ go = expr e σ (λ v. expr a σ (λ x. expr b σ (λ y. go (at_zero v y x))))

-- n ticks
abbrev pub locals : ℕ → Behavior → Behavior
locals zero t = t
locals (suc n) t = Act Local (locals n t)

-- a loop that makes at most n tests
abbrev pub turns : ℕ → (State → (ℕ → Behavior) → Behavior) → (State → (State → Behavior) → Behavior) → (State → Behavior) → State → Behavior
turns zero test body go σ = OutOfTurns
turns (suc n) test body go σ = test σ (λ v. Act Local (at_zero v (go σ) (body σ (turns n test body go))))

-- a statement, with what goes on after it, after a break and after a continue
abbrev mutual
  pub stmt : Kinds → ℕ → Stmt → State → (State → Behavior) → (State → Behavior) → (State → Behavior) → Behavior
  stmt K n (Set x e) σ go out again = expr e σ (λ v. Act Local (go (set_var σ x v)))
  stmt K n (SetCell a i e) σ go out again = expr e σ (λ v. expr i σ (λ j. Act Local (go (set_cell σ a j v))))
  stmt K n (SetCellBy a i op kind e) σ go out again =
      expr e σ (λ v. expr i σ (λ j. Act Local (go (set_cell σ a j (converted kind (K.arrays a) (applied op kind (converted (K.arrays a) kind (cell σ.arrays a j)) v))))))
  stmt K n (StoreCell m i e) σ go out again = expr e σ (λ v. expr i σ (λ j. Act (Store m j v) (go (store_cell σ m j v))))
  stmt K n (StoreBy m i op kind e) σ go out again =
      expr e σ (λ v. expr i σ (λ j. Act (Load m j)
      (Act (Store m j (converted kind (K.memories m) (applied op kind (converted (K.memories m) kind (cell σ.cells m j)) v)))
      (go (store_cell σ m j (converted kind (K.memories m) (applied op kind (converted (K.memories m) kind (cell σ.cells m j)) v)))))))
  stmt K n (ReadVar s x) σ go out again = Await s ByRead (λ v. Act Local (go (set_var σ x (converted (K.streams s) (K.vars x) v))))
  stmt K n (ReadCell s a i) σ go out again =
      expr i σ (λ j. Await s ByRead (λ v. Act Local (go (set_cell σ a j (converted (K.streams s) (K.arrays a) v)))))
  stmt K n (ReadStore s m i) σ go out again =
      expr i σ (λ j. Await s ByRead (λ v. Act (Store m j (converted (K.streams s) (K.memories m) v)) (go (store_cell σ m j (converted (K.streams s) (K.memories m) v)))))
  stmt K n (Write s e) σ go out again = expr e σ (λ v. Act (Put s (Datum v)) (go σ))
  stmt K n (OpenIt s) σ go out again = Await s ByOpen (λ v. go σ)
  stmt K n (Close s) σ go out again = Act (Put s EotToken) (go σ)
  stmt K n (Discard e) σ go out again = expr e σ (λ v. go σ)
  stmt K n (Clear a) σ go out again = locals (cells_of σ a) (go (cleared σ a))
  stmt K n (If' e p left q right) σ go out again =
      expr e σ (λ v. Act Local (at_zero v (block K n right σ go out again) (block K n left σ go out again)))
  stmt K n (Loop' e p body q step) σ go out again =
      turns n (expr e) (λ σ' next. block K n body σ' (λ σ''. block K n step σ'' next go next) go (λ σ''. block K n step σ'' next go next)) go σ
  stmt K n Break σ go out again = out σ
  stmt K n Continue σ go out again = again σ

  pub block : {m : _} → Kinds → ℕ → Row_of-Stmt m → State → (State → Behavior) → (State → Behavior) → (State → Behavior) → Behavior
  block K n end_of-Stmt σ go out again = go σ
  block K n (more_of-Stmt s rest) σ go out again = stmt K n s σ (λ σ'. block K n rest σ' go out again) out again

-- statements in a list
abbrev pub statements : Kinds → ℕ → List Stmt → State → (State → Behavior) → (State → Behavior) → (State → Behavior) → Behavior
statements K n [] σ go out again = go σ
statements K n (s ∷ rest) σ go out again = stmt K n s σ (λ σ'. statements K n rest σ' go out again) out again

-- the job of a body from its first state
abbrev pub job_of : Kinds → List Stmt → State → ℕ → Behavior
job_of K code σ n = statements K n code σ (λ σ'. Finished) (λ σ'. Finished) (λ σ'. Finished)

-- a job at the streams that an instance is bound to; memories stay positions
abbrev pub act_at : (ℕ → ℕ) → Action → Action
act_at f Local = Local
act_at f (Put s t) = Put (f s) t
act_at f (Load m a) = Load m a
act_at f (Store m a v) = Store m a v

abbrev pub at_streams : (ℕ → ℕ) → Behavior → Behavior
at_streams f Finished = Finished
at_streams f OutOfTurns = OutOfTurns
at_streams f (Act a rest) = Act (act_at f a) (at_streams f rest)
at_streams f (Await s how rest) = Await (f s) how (λ v. at_streams f (rest v))
