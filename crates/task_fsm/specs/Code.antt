-- The states of a body, compiled from its end: each statement gets the number of the state that comes after it.
use Rattle.std.specs.Prelude.{ℕ, ◌+◌, ◌-◌, List, [], ◌∷◌, ◌++◌, length, Some, None}
use Rattle.tapa_base.specs.declared.kind.Kind.{Kind}
use Rattle.tapa_base.specs.declared.kind.Kind.TheVariants.{Bool, U32}
use Rattle.tapa_base.specs.declared.op.Op.{Op}
use Rattle.tapa_syntax.specs.declared.program.Expr.{Expr}
use Rattle.tapa_syntax.specs.declared.program.Expr.TheVariants.{Lit, Var, Cell', Read, Peek, Eot, Load', Conv', Apply', Flip', Not', And', Or', Choose'}
use Rattle.tapa_syntax.specs.declared.program.Stmt.{Stmt, Row_of-Stmt, end_of-Stmt, more_of-Stmt}
use Rattle.tapa_syntax.specs.declared.program.Stmt.TheVariants.{Set, SetCell, SetCellBy, Store, StoreBy, ReadVar, ReadCell, ReadStore, Write, Open, Close, Discard, Clear, If', Loop', Break, Continue}
use Rattle.tapa_syntax.specs.declared.program.Leaf.{Leaf}
use Rattle.tapa_syntax.specs.LeafKinds.{Kinds, kinds_of}
use Rattle.tapa_syntax.specs.TickPlaces.{operation_count, size_of_block, size_of_list}
use Rattle.task_fsm.specs.Machine.{Expression, Number, Reg, CellOf, Converted, Applied, Flipped, Inverse, Both, Either, Chosen, StateForm, SetAt, CellAt, TestAt, ReadAt}
use Rattle.task_fsm.specs.Machine.{WriteAt, PeekAt, EotAt, OpenAt, CloseAt, LoadAt, StoreAt, ClearAt, EndAt, TrapAt}

-- the residual of an expression whose operations have their values in the registers from t on, the last operation first
abbrev pub residual : Expr → ℕ → Expression
residual (Lit kind n) t = Number kind n
residual (Var x) t = Reg x
residual (Cell' a p e) t = CellOf a (residual e t)
residual (Read s) t = Reg t
residual (Peek s) t = Reg t
residual (Eot s) t = Reg t
residual (Load' m p e) t = Reg t
residual (Conv' source target p e) t = Converted source target (residual e t)
residual (Apply' op kind p l q r) t = Applied op kind (residual l (t + operation_count r)) (residual r t)
residual (Flip' kind p e) t = Flipped kind (residual e t)
residual (Not' p e) t = Inverse (residual e t)
residual (And' p l q r) t = Both (residual l (t + operation_count r)) (residual r t)
residual (Or' p l q r) t = Either (residual l (t + operation_count r)) (residual r t)
residual (Choose' p e q a r b) t = Chosen (residual e (t + (operation_count b + operation_count a))) (residual a (t + operation_count b)) (residual b t)

-- the states that are emitted so far, which are the last ones; the number of the one that comes first in time; and the registers
pub record Emitted : Type 0 where
  pub places : List StateForm
  pub entry : ℕ
  pub regs : List Kind

-- one more state before the others, of which there are to be N in all
abbrev pub emit : ℕ → (ℕ → StateForm) → Emitted → Emitted
emit N p B = record { places = p B.entry ∷ B.places; entry = N - (length B.places + 1); regs = B.regs }

-- a state with a register of its own
abbrev pub emit_held : ℕ → Kind → (ℕ → ℕ → StateForm) → Emitted → Emitted
emit_held N kind p B = record {
  places = p (length B.regs) B.entry ∷ B.places;
  entry = N - (length B.places + 1);
  regs = B.regs ++ kind ∷ [];
}

abbrev pub going_to : ℕ → Emitted → Emitted
going_to pc B = record B { entry = pc }

-- an expression's operations
abbrev pub operations : Kinds → ℕ → Expr → Emitted → Emitted
operations K N (Lit kind n) B = B
operations K N (Var x) B = B
operations K N (Cell' a p e) B = operations K N e B
operations K N (Read s) B = emit_held N (K.streams s) (λ t next. ReadAt s (Some t) next) B
operations K N (Peek s) B = emit_held N (K.streams s) (λ t next. PeekAt s (Some t) next) B
operations K N (Eot s) B = emit_held N Bool (λ t next. EotAt s (Some t) next) B
operations K N (Load' m p e) B = operations K N e (emit_held N (K.memories m) (λ t next. LoadAt m (residual e (t + 1)) (Some t) next) B)
operations K N (Conv' source target p e) B = operations K N e B
operations K N (Apply' op kind p l q r) B = operations K N l (operations K N r B)
operations K N (Flip' kind p e) B = operations K N e B
operations K N (Not' p e) B = operations K N e B
operations K N (And' p l q r) B = operations K N l (operations K N r B)
operations K N (Or' p l q r) B = operations K N l (operations K N r B)
operations K N (Choose' p e q a r b) B = operations K N e (operations K N a (operations K N b B))

-- an expression that is a statement: its last operation needs no register
abbrev pub discarded : Kinds → ℕ → Expr → Emitted → Emitted
discarded K N (Read s) B = emit N (λ next. ReadAt s None next) B
discarded K N (Peek s) B = emit N (λ next. PeekAt s None next) B
discarded K N (Eot s) B = emit N (λ next. EotAt s None next) B
discarded K N (Load' m p e) B = operations K N e (emit N (λ next. LoadAt m (residual e (length B.regs)) None next) B)
discarded K N e B = operations K N e B

-- the old value of a cell of kind k, by an operator in another kind
abbrev pub old_with : Op → Kind → Kind → Expression → Expression → Expression
old_with op kind k old new = Converted kind k (Applied op kind (Converted k kind old) new)

-- a test that goes on to the next state where it holds, and to `other` where not
abbrev pub test_code : Kinds → ℕ → Expr → ℕ → Emitted → Emitted
test_code K N e other B = operations K N e (emit N (λ next. TestAt (residual e (length B.regs)) next other) B)

-- a loop, whose first state is the head
abbrev pub loop_code : Kinds → ℕ → Expr → ℕ → (ℕ → ℕ → Emitted → Emitted) → (ℕ → ℕ → Emitted → Emitted) → Emitted → Emitted
loop_code K N e head body step B =
    test_code K N e B.entry (body B.entry (step B.entry head (going_to head B)).entry (step B.entry head (going_to head B)))

abbrev mutual
  -- a statement: c is the counter's register, out the state after a break and again the one after a continue
  pub stmt_code : Kinds → ℕ → ℕ → Stmt → ℕ → ℕ → Emitted → Emitted
  stmt_code K N c (Set x e) out again B = operations K N e (emit N (λ next. SetAt x (residual e (length B.regs)) next) B)
  stmt_code K N c (SetCell a i e) out again B =
      operations K N e (operations K N i (emit N (λ next. CellAt a (residual i (length B.regs)) (residual e (length B.regs + operation_count i)) next) B))
  stmt_code K N c (SetCellBy a i op kind e) out again B =
      operations K N e (operations K N i (emit N
      (λ next. CellAt a (residual i (length B.regs))
      (old_with op kind (K.arrays a) (CellOf a (residual i (length B.regs))) (residual e (length B.regs + operation_count i))) next) B))
  stmt_code K N c (Store m i e) out again B =
      operations K N e (operations K N i (emit N (λ next. StoreAt m (residual i (length B.regs)) (residual e (length B.regs + operation_count i)) next) B))
  stmt_code K N c (StoreBy m i op kind e) out again B =
      operations K N e (operations K N i (emit_held N (K.memories m) (λ t next. LoadAt m (residual i (t + 1)) (Some t) next)
      (emit N (λ next. StoreAt m (residual i (length B.regs + 1))
      (old_with op kind (K.memories m) (Reg (length B.regs)) (residual e (length B.regs + 1 + operation_count i))) next) B)))
  stmt_code K N c (ReadVar s x) out again B =
      emit_held N (K.streams s) (λ t next. ReadAt s (Some t) next) (emit N (λ next. SetAt x (Converted (K.streams s) (K.vars x) (Reg (length B.regs))) next) B)
  stmt_code K N c (ReadCell s a i) out again B =
      operations K N i (emit_held N (K.streams s) (λ t next. ReadAt s (Some t) next)
      (emit N (λ next. CellAt a (residual i (length B.regs + 1)) (Converted (K.streams s) (K.arrays a) (Reg (length B.regs))) next) B))
  stmt_code K N c (ReadStore s m i) out again B =
      operations K N i (emit_held N (K.streams s) (λ t next. ReadAt s (Some t) next)
      (emit N (λ next. StoreAt m (residual i (length B.regs + 1)) (Converted (K.streams s) (K.memories m) (Reg (length B.regs))) next) B))
  stmt_code K N c (Write s e) out again B = operations K N e (emit N (λ next. WriteAt s (residual e (length B.regs)) next) B)
  stmt_code K N c (Open s) out again B = emit N (λ next. OpenAt s next) B
  stmt_code K N c (Close s) out again B = emit N (λ next. CloseAt s next) B
  stmt_code K N c (Discard e) out again B = discarded K N e B
  stmt_code K N c (Clear a) out again B = emit N (λ next. ClearAt a c next) B
  stmt_code K N c (If' e p left q right) out again B =
      test_code K N e (block_code K N c right out again B).entry (block_code K N c left out again (going_to B.entry (block_code K N c right out again B)))
  stmt_code K N c (Loop' e p body q step) out again B =
      loop_code K N e (N - (length B.places + (size_of_block step + size_of_block body + (1 + operation_count e)))) (λ o a C. block_code K N c body o a C) (λ o a C. block_code K N c step o a C) B
  stmt_code K N c Break out again B = going_to out B
  stmt_code K N c Continue out again B = going_to again B

  pub block_code : {m : _} → Kinds → ℕ → ℕ → Row_of-Stmt m → ℕ → ℕ → Emitted → Emitted
  block_code K N c end_of-Stmt out again B = B
  block_code K N c (more_of-Stmt s rest) out again B = stmt_code K N c s out again (block_code K N c rest out again B)

-- a statement that has no statements in it, clears no array and does not jump
abbrev pub plain_code : Kinds → ℕ → Stmt → Emitted → Emitted
plain_code K N s B = stmt_code K N 0 s 0 0 B

-- statements in a list
abbrev pub list_code : Kinds → ℕ → ℕ → List Stmt → ℕ → ℕ → Emitted → Emitted
list_code K N c [] out again B = B
list_code K N c (s ∷ rest) out again B = stmt_code K N c s out again (list_code K N c rest out again B)

-- a body: its statements, the end and the trap
abbrev pub last_code : ℕ → Leaf → Emitted
last_code N leaf = record { places = EndAt ∷ TrapAt ∷ []; entry = N - 2; regs = leaf.vars.items ++ U32 ∷ [] }

abbrev pub leaf_code : Leaf → Emitted
leaf_code leaf =
    list_code (kinds_of leaf) (size_of_list leaf.code.items + 2) (length leaf.vars.items) leaf.code.items (size_of_list leaf.code.items)
    (size_of_list leaf.code.items) (last_code (size_of_list leaf.code.items + 2) leaf)
