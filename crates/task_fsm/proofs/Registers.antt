-- What is compiled has as many registers as were counted.
use Rattle.std.proofs.Common.{◌≡◌, ℕ, ◌+◌, ◌-◌, List, [], ◌∷◌, length, None, Some, arith, length-append}
use Rattle.tapa_base.specs.declared.kind.Kind.{Kind}
use Rattle.tapa_base.specs.declared.kind.Kind.TheVariants.{U32}
use Rattle.tapa_syntax.specs.declared.program.Expr.{Expr}
use Rattle.tapa_syntax.specs.declared.program.Expr.TheVariants.{Lit, Var, Cell', Read, Peek, Eot, Load', Conv', Apply', Flip', Not', And', Or', Choose'}
use Rattle.tapa_syntax.specs.declared.program.Leaf.{Leaf}
use Rattle.tapa_syntax.specs.declared.program.Stmt.{Stmt, Row_of-Stmt, end_of-Stmt, more_of-Stmt}
use Rattle.tapa_syntax.specs.declared.program.Stmt.TheVariants.{Set, SetCell, SetCellBy, Store, StoreBy, ReadVar, ReadCell, ReadStore, Write, Open, Close, Discard, Clear, If', Loop', Break, Continue}
use Rattle.tapa_syntax.specs.LeafKinds.{Kinds, kinds_of}
use Rattle.tapa_syntax.specs.TickPlaces.{operation_count, size_of_block, size_of_list}
use Rattle.task_fsm.specs.Machine.{StateForm, SetAt, CellAt, TestAt, ReadAt, WriteAt, LoadAt, StoreAt, Converted, Reg, CellOf}
use Rattle.task_fsm.specs.Code.{Emitted, emit, emit_held, going_to, residual, operations, discarded, old_with, test_code, stmt_code, block_code, list_code, last_code, leaf_code}
use Rattle.task_fsm.specs.Temporaries.{held_of_discarded, held_of, held_of_block, held_of_list, temporaries_of}
use Rattle.task_fsm.proofs.Grows.{regs_ops}

-- how many registers
abbrev many : Emitted → ℕ
many B = length B.regs

held_two : (K : Kinds) (N : ℕ) (e i : Expr) (p : ℕ → StateForm) (B : Emitted) → many (operations K N e (operations K N i (emit N p B))) ≡ many B + (operation_count i + operation_count e)
held_two K N e i p B =
    let a = regs_ops K N i (emit N p B) in
    let b = regs_ops K N e (operations K N i (emit N p B)) in
    omega arith

-- a register for what an operation gives, and then others
held_with : (K : Kinds) (N : ℕ) (e : Expr) (kind : Kind) (p : ℕ → ℕ → StateForm) (B : Emitted) → many (operations K N e (emit_held N kind p B)) ≡ many B + (1 + operation_count e)
held_with K N e kind p B =
    let a = regs_ops K N e (emit_held N kind p B) in
    let l = length-append B.regs (kind ∷ []) in
    omega arith

held_test : (K : Kinds) (N : ℕ) (e : Expr) (other : ℕ) (B : Emitted) → many (test_code K N e other B) ≡ many B + operation_count e
held_test K N e other B = regs_ops K N e (emit N (λ next. TestAt (residual e (length B.regs)) next other) B)

held_discarded : (K : Kinds) (N : ℕ) (e : Expr) (B : Emitted) → many (discarded K N e B) ≡ many B + held_of_discarded e
held_discarded K N (Read s) B = omega arith
held_discarded K N (Peek s) B = omega arith
held_discarded K N (Eot s) B = omega arith
held_discarded K N (Load' m p e) B = regs_ops K N e (emit N (λ next. LoadAt m (residual e (length B.regs)) None next) B)
held_discarded K N (Lit kind n) B = regs_ops K N (Lit kind n) B
held_discarded K N (Var x) B = regs_ops K N (Var x) B
held_discarded K N (Cell' a p e) B = regs_ops K N (Cell' a p e) B
held_discarded K N (Conv' source target p e) B = regs_ops K N (Conv' source target p e) B
held_discarded K N (Apply' op kind p l q r) B = regs_ops K N (Apply' op kind p l q r) B
held_discarded K N (Flip' kind p e) B = regs_ops K N (Flip' kind p e) B
held_discarded K N (Not' p e) B = regs_ops K N (Not' p e) B
held_discarded K N (And' p l q r) B = regs_ops K N (And' p l q r) B
held_discarded K N (Or' p l q r) B = regs_ops K N (Or' p l q r) B
held_discarded K N (Choose' p e q a r b) B = regs_ops K N (Choose' p e q a r b) B

mutual
  held_stmt : (K : Kinds) (N c : ℕ) (s : Stmt) (out again : ℕ) (B : Emitted) → many (stmt_code K N c s out again B) ≡ many B + held_of s
  held_stmt K N c (Set x e) out again B = regs_ops K N e (emit N (λ next. SetAt x (residual e (length B.regs)) next) B)
  held_stmt K N c (SetCell a i e) out again B =
      held_two K N e i (λ next. CellAt a (residual i (length B.regs)) (residual e (length B.regs + operation_count i)) next) B
  held_stmt K N c (SetCellBy a i op kind e) out again B =
      held_two K N e i (λ next. CellAt a (residual i (length B.regs)) (old_with op kind (K.arrays a) (CellOf a (residual i (length B.regs))) (residual e (length B.regs + operation_count i))) next) B
  held_stmt K N c (Store m i e) out again B =
      held_two K N e i (λ next. StoreAt m (residual i (length B.regs)) (residual e (length B.regs + operation_count i)) next) B
  held_stmt K N c (StoreBy m i op kind e) out again B =
      let q = λ (t next : ℕ). LoadAt m (residual i (t + 1)) (Some t) next in
      let C = emit N (λ next. StoreAt m (residual i (length B.regs + 1)) (old_with op kind (K.memories m) (Reg (length B.regs)) (residual e (length B.regs + 1 + operation_count i))) next) B in
      let a = held_with K N i (K.memories m) q C in
      let b = regs_ops K N e (operations K N i (emit_held N (K.memories m) q C)) in
      omega arith
  held_stmt K N c (ReadVar s x) out again B = omega (arith, length-append B.regs (K.streams s ∷ []))
  held_stmt K N c (ReadCell s a i) out again B =
      held_with K N i (K.streams s) (λ t next. ReadAt s (Some t) next) (emit N (λ next. CellAt a (residual i (length B.regs + 1)) (Converted (K.streams s) (K.arrays a) (Reg (length B.regs))) next) B)
  held_stmt K N c (ReadStore s m i) out again B =
      held_with K N i (K.streams s) (λ t next. ReadAt s (Some t) next) (emit N (λ next. StoreAt m (residual i (length B.regs + 1)) (Converted (K.streams s) (K.memories m) (Reg (length B.regs))) next) B)
  held_stmt K N c (Write s e) out again B = regs_ops K N e (emit N (λ next. WriteAt s (residual e (length B.regs)) next) B)
  held_stmt K N c (Open s) out again B = omega arith
  held_stmt K N c (Close s) out again B = omega arith
  held_stmt K N c (Discard e) out again B = held_discarded K N e B
  held_stmt K N c (Clear a) out again B = omega arith
  held_stmt K N c (If' e p left q right) out again B =
      let R = block_code K N c right out again B in
      let L = block_code K N c left out again (going_to B.entry R) in
      let a = held_block K N c right out again B in
      let b = held_block K N c left out again (going_to B.entry R) in
      let d = held_test K N e R.entry L in
      omega arith
  held_stmt K N c (Loop' e p body q step) out again B =
      let head = N - (length B.places + (size_of_block step + size_of_block body + (1 + operation_count e))) in
      let S = block_code K N c step B.entry head (going_to head B) in
      let L = block_code K N c body B.entry S.entry S in
      let a = held_block K N c step B.entry head (going_to head B) in
      let b = held_block K N c body B.entry S.entry S in
      let d = held_test K N e B.entry L in
      omega arith
  held_stmt K N c Break out again B = omega arith
  held_stmt K N c Continue out again B = omega arith

  held_block : {m : _} → (K : Kinds) (N c : ℕ) (s : Row_of-Stmt m) (out again : ℕ) (B : Emitted) → many (block_code K N c s out again B) ≡ many B + held_of_block s
  held_block K N c end_of-Stmt out again B = omega arith
  held_block K N c (more_of-Stmt s rest) out again B =
      let a = held_block K N c rest out again B in
      let b = held_stmt K N c s out again (block_code K N c rest out again B) in
      omega arith

held_list : (K : Kinds) (N c : ℕ) (l : List Stmt) (out again : ℕ) (B : Emitted) → many (list_code K N c l out again B) ≡ many B + held_of_list l
held_list K N c [] out again B = omega arith
held_list K N c (s ∷ rest) out again B =
    let a = held_list K N c rest out again B in
    let b = held_stmt K N c s out again (list_code K N c rest out again B) in
    omega arith

pub registers_leaf : (leaf : Leaf) → length (leaf_code leaf).regs ≡ length leaf.vars.items + temporaries_of leaf.code.items
registers_leaf leaf =
    let z = size_of_list leaf.code.items in
    let a = held_list (kinds_of leaf) (z + 2) (length leaf.vars.items) leaf.code.items z z (last_code (z + 2) leaf) in
    let l = length-append leaf.vars.items (U32 ∷ []) in
    omega arith
