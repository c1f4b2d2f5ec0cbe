-- The machine of a leaf names what is there.
use Rattle.std.proofs.Common.{◌≡◌, ◌⊎◌, ℕ, zero, suc, ◌+◌, ◌-◌, ◌<◌, ◌≤◌, List, [], ◌∷◌, length, Bool, Some, None, sym, subst, ⊎_elim, arith, length-append}
use Rattle.std.specs.Prelude.{slice_get}
use Rattle.tapa_base.specs.declared.kind.Kind.{Kind}
use Rattle.tapa_base.specs.declared.kind.Kind.TheVariants as kind
use Rattle.tapa_syntax.specs.declared.program.Expr.{Expr}
use Rattle.tapa_syntax.specs.declared.program.Expr.TheVariants.{Lit, Var, Cell', Read, Peek, Eot, Load', Conv', Apply', Flip', Not', And', Or', Choose'}
use Rattle.tapa_syntax.specs.declared.program.Leaf.{Leaf}
use Rattle.tapa_syntax.specs.declared.program.Stmt.{Stmt, Row_of-Stmt, end_of-Stmt, more_of-Stmt}
use Rattle.tapa_syntax.specs.declared.program.Stmt.TheVariants.{Set, SetCell, SetCellBy, Store, StoreBy, ReadVar, ReadCell, ReadStore, Write, Open, Close, Discard, Clear, If', Loop', Break, Continue}
use Rattle.tapa_syntax.specs.LeafKinds.{Kinds, kinds_of, writes_of}
use Rattle.tapa_syntax.specs.ArrayUse.{In, FitsExpr, FitsStmt, FitsBlock, FitsCode, cleared_by}
use Rattle.tapa_syntax.specs.StreamUse.{UsesExpr, UsesStmt, UsesBlock, UsesCode}
use Rattle.tapa_syntax.specs.MemoryUse.{LoadsWithin, AsksStmt, AsksBlock, AsksCode}
use Rattle.tapa_syntax.specs.TickPlaces.{operation_count, size_of_block, size_of_list}
use Rattle.tapa_syntax.specs.WellFormed.{IsLeaf}
use Rattle.task_fsm.specs.Machine.{Reg, CellOf, Converted, StateForm, SetAt, CellAt, TestAt, ReadAt, WriteAt, PeekAt, EotAt, OpenAt, CloseAt, LoadAt, StoreAt, ClearAt}
use Rattle.task_fsm.specs.Ranges.{Ranges, NamesWithin, IsInRange, AreInRange}
use Rattle.task_fsm.specs.Code.{Emitted, emit, emit_held, going_to, residual, operations, discarded, old_with, test_code, stmt_code, block_code, list_code, last_code, leaf_code}
use Rattle.task_fsm.proofs.Grows.{grows_ops, grows_test, grows_stmt, grows_block, regs_ops}
use Rattle.task_fsm.proofs.Body.{grows_list, size_leaf}

-- a state of a machine whose states are in range
pub in_range_at : (r : Ranges) (places : List StateForm) (pc : ℕ) (p : StateForm) → AreInRange r places → slice_get places pc ≡ Some p → IsInRange r p
in_range_at r [] pc p h e = cc
in_range_at r (q ∷ places) zero p h e = let same : q ≡ p = cc in subst (IsInRange r) same h.0
in_range_at r (q ∷ places) (suc pc) p h e = in_range_at r places pc p h.1 e

-- the arrays of a list are there
abbrev AreArrays : ℕ → List ℕ → Type 0
AreArrays A S = (a : ℕ) → In a S → a < A

one_more : (A a : ℕ) (S : List ℕ) → a < A → AreArrays A S → AreArrays A (a ∷ S)
one_more A a S l h b e = ⊎_elim (λ (q : b ≡ a). subst (λ z. z < A) (sym q) l) (λ (n : In b S). h b n) e

module _ (K : Kinds) (r : Ranges) (c N : ℕ) (vars : c ≤ r.registers) (big : 2 ≤ N) (states : r.states ≡ N - 1) where
  -- what is emitted so far
  record Ready (B : Emitted) : Type 0 where
    places : AreInRange r B.places
    entry : B.entry < r.states
    some : 2 ≤ length B.places

  put : (p : ℕ → StateForm) (B : Emitted) → Ready B → IsInRange r (p B.entry) → Ready (emit N p B)
  put p B h at = let s = h.some in record { places = (at, h.places); entry = omega arith; some = omega arith }

  hold : (k : Kind) (p : ℕ → ℕ → StateForm) (B : Emitted) → Ready B → IsInRange r (p (length B.regs) B.entry) → Ready (emit_held N k p B)
  hold k p B h at = let s = h.some in record { places = (at, h.places); entry = omega arith; some = omega arith }

  go : (pc : ℕ) (B : Emitted) → Ready B → pc < r.states → Ready (going_to pc B)
  go pc B h l = record { places = h.places; entry = l; some = h.some }

  -- the registers of an expression's operations are there
  names : (S : List ℕ) (e : Expr) (t : ℕ) → AreArrays r.arrays S → FitsExpr c S e → t + operation_count e ≤ r.registers → NamesWithin r (residual e t)
  names S (Lit j n) t a f l = tt
  names S (Var x) t a f l = omega arith
  names S (Cell' b p e) t a f l = (a b f.0, names S e t a f.1 l)
  names S (Read s) t a f l = omega arith
  names S (Peek s) t a f l = omega arith
  names S (Eot s) t a f l = omega arith
  names S (Load' m p e) t a f l = omega arith
  names S (Conv' source target p e) t a f l = names S e t a f l
  names S (Apply' o j p x q y) t a f l = (names S x (t + operation_count y) a f.0 (omega arith), names S y t a f.1 (omega arith))
  names S (Flip' j p e) t a f l = names S e t a f l
  names S (Not' p e) t a f l = names S e t a f l
  names S (And' p x q y) t a f l = (names S x (t + operation_count y) a f.0 (omega arith), names S y t a f.1 (omega arith))
  names S (Or' p x q y) t a f l = (names S x (t + operation_count y) a f.0 (omega arith), names S y t a f.1 (omega arith))
  names S (Choose' p e q x w y) t a f l =
      (names S e (t + (operation_count y + operation_count x)) a f.0 (omega arith), names S x (t + operation_count y) a f.1 (omega arith), names S y t a f.2 (omega arith))

  ops : (S : List ℕ) (e : Expr) (B : Emitted) → AreArrays r.arrays S → FitsExpr c S e → UsesExpr r.writes e → LoadsWithin r.memories e → length (operations K N e B).regs ≤ r.registers → Ready B → Ready (operations K N e B)
  ops S (Lit j n) B a f u m l h = h
  ops S (Var x) B a f u m l h = h
  ops S (Cell' b p e) B a f u m l h = ops S e B a f.1 u m l h
  ops S (Read s) B a f u m l h =
      let n = length-append B.regs (K.streams s ∷ []) in hold (K.streams s) (λ t next. ReadAt s (Some t) next) B h (u, (let x : length B.regs < r.registers = omega arith in x), h.entry)
  ops S (Peek s) B a f u m l h =
      let n = length-append B.regs (K.streams s ∷ []) in hold (K.streams s) (λ t next. PeekAt s (Some t) next) B h (u, (let x : length B.regs < r.registers = omega arith in x), h.entry)
  ops S (Eot s) B a f u m l h =
      let n = length-append B.regs (kind.Bool ∷ []) in hold kind.Bool (λ t next. EotAt s (Some t) next) B h (u, (let x : length B.regs < r.registers = omega arith in x), h.entry)
  ops S (Load' i p e) B a f u m l h =
      let q = λ (t next : ℕ). LoadAt i (residual e (t + 1)) (Some t) next in
      let C = emit_held N (K.memories i) q B in
      let n = length-append B.regs (K.memories i ∷ []) in
      let g = regs_ops K N e C in
      let w = names S e (length B.regs + 1) a f (omega arith) in
      ops S e C a f u m.1 l (hold (K.memories i) q B h (m.0, w, (let x : length B.regs < r.registers = omega arith in x), h.entry))
  ops S (Conv' source target p e) B a f u m l h = ops S e B a f u m l h
  ops S (Apply' o j p x q y) B a f u m l h =
      let C = operations K N y B in
      let g = (grows_ops K N x C).regs in
      ops S x C a f.0 u.0 m.0 l (ops S y B a f.1 u.1 m.1 (omega arith) h)
  ops S (Flip' j p e) B a f u m l h = ops S e B a f u m l h
  ops S (Not' p e) B a f u m l h = ops S e B a f u m l h
  ops S (And' p x q y) B a f u m l h =
      let C = operations K N y B in
      let g = (grows_ops K N x C).regs in
      ops S x C a f.0 u.0 m.0 l (ops S y B a f.1 u.1 m.1 (omega arith) h)
  ops S (Or' p x q y) B a f u m l h =
      let C = operations K N y B in
      let g = (grows_ops K N x C).regs in
      ops S x C a f.0 u.0 m.0 l (ops S y B a f.1 u.1 m.1 (omega arith) h)
  ops S (Choose' p e q x w y) B a f u m l h =
      let A = operations K N y B in
      let C = operations K N x A in
      let g = (grows_ops K N e C).regs in
      let ga = (grows_ops K N x A).regs in
      ops S e C a f.0 u.0 m.0 l (ops S x A a f.1 u.1 m.1 (omega arith) (ops S y B a f.2 u.2 m.2 (omega arith) h))

  -- one expression's operations before a place, and those of two
  one : (S : List ℕ) (e : Expr) (p : ℕ → StateForm) (B : Emitted) → AreArrays r.arrays S → FitsExpr c S e → UsesExpr r.writes e → LoadsWithin r.memories e → length (operations K N e (emit N p B)).regs ≤ r.registers → (NamesWithin r (residual e (length B.regs)) → IsInRange r (p B.entry)) → Ready B → Ready (operations K N e (emit N p B))
  one S e p B a f u m l at h =
      let g = regs_ops K N e (emit N p B) in
      ops S e (emit N p B) a f u m l (put p B h (at (names S e (length B.regs) a f (omega arith))))

  two : (S : List ℕ) (e i : Expr) (p : ℕ → StateForm) (B : Emitted) → AreArrays r.arrays S → FitsExpr c S e → FitsExpr c S i → UsesExpr r.writes e → UsesExpr r.writes i → LoadsWithin r.memories e → LoadsWithin r.memories i → length (operations K N e (operations K N i (emit N p B))).regs ≤ r.registers → (NamesWithin r (residual i (length B.regs)) → NamesWithin r (residual e (length B.regs + operation_count i)) → IsInRange r (p B.entry)) → Ready B → Ready (operations K N e (operations K N i (emit N p B)))
  two S e i p B a f fi u ui m mi l at h =
      let C = operations K N i (emit N p B) in
      let gi = regs_ops K N i (emit N p B) in
      let g = regs_ops K N e C in
      ops S e C a f u m l (ops S i (emit N p B) a fi ui mi (omega arith) (put p B h (at (names S i (length B.regs) a fi (omega arith)) (names S e (length B.regs + operation_count i) a f (omega arith)))))

  test : (S : List ℕ) (e : Expr) (other : ℕ) (B : Emitted) → AreArrays r.arrays S → FitsExpr c S e → UsesExpr r.writes e → LoadsWithin r.memories e → length (test_code K N e other B).regs ≤ r.registers → other < r.states → Ready B → Ready (test_code K N e other B)
  test S e other B a f u m l o h = one S e (λ next. TestAt (residual e (length B.regs)) next other) B a f u m l (λ x. (x, h.entry, o)) h

  alone : (S : List ℕ) (e : Expr) (B : Emitted) → AreArrays r.arrays S → FitsExpr c S e → UsesExpr r.writes e → LoadsWithin r.memories e → length (discarded K N e B).regs ≤ r.registers → Ready B → Ready (discarded K N e B)
  alone S (Read s) B a f u m l h = put (λ next. ReadAt s None next) B h (u, tt, h.entry)
  alone S (Peek s) B a f u m l h = put (λ next. PeekAt s None next) B h (u, tt, h.entry)
  alone S (Eot s) B a f u m l h = put (λ next. EotAt s None next) B h (u, tt, h.entry)
  alone S (Load' i p e) B a f u m l h = one S e (λ next. LoadAt i (residual e (length B.regs)) None next) B a f u m.1 l (λ x. (m.0, x, tt, h.entry)) h
  alone S (Lit j n) B a f u m l h = h
  alone S (Var x) B a f u m l h = h
  alone S (Cell' b p e) B a f u m l h = ops S (Cell' b p e) B a f u m l h
  alone S (Conv' source target p e) B a f u m l h = ops S (Conv' source target p e) B a f u m l h
  alone S (Apply' o j p x q y) B a f u m l h = ops S (Apply' o j p x q y) B a f u m l h
  alone S (Flip' j p e) B a f u m l h = ops S (Flip' j p e) B a f u m l h
  alone S (Not' p e) B a f u m l h = ops S (Not' p e) B a f u m l h
  alone S (And' p x q y) B a f u m l h = ops S (And' p x q y) B a f u m l h
  alone S (Or' p x q y) B a f u m l h = ops S (Or' p x q y) B a f u m l h
  alone S (Choose' p e q x w y) B a f u m l h = ops S (Choose' p e q x w y) B a f u m l h

  arrays_after : (S : List ℕ) (s : Stmt) → FitsStmt c r.arrays S s → AreArrays r.arrays S → AreArrays r.arrays (cleared_by s S)
  arrays_after S (Clear b) f a = one_more r.arrays b S f a
  arrays_after S (Set x e) f a = a
  arrays_after S (SetCell b i e) f a = a
  arrays_after S (SetCellBy b i o k e) f a = a
  arrays_after S (Store m i e) f a = a
  arrays_after S (StoreBy m i o k e) f a = a
  arrays_after S (ReadVar s x) f a = a
  arrays_after S (ReadCell s b i) f a = a
  arrays_after S (ReadStore s m i) f a = a
  arrays_after S (Write s e) f a = a
  arrays_after S (Open s) f a = a
  arrays_after S (Close s) f a = a
  arrays_after S (Discard e) f a = a
  arrays_after S (If' e p left q right) f a = a
  arrays_after S (Loop' e p body q step) f a = a
  arrays_after S Break f a = a
  arrays_after S Continue f a = a

  mutual
    stmt : (count : ℕ) (S : List ℕ) (s : Stmt) (out again : ℕ) (B : Emitted) → count < r.registers → AreArrays r.arrays S → FitsStmt c r.arrays S s → UsesStmt r.writes s → AsksStmt r.memories s → length (stmt_code K N count s out again B).regs ≤ r.registers → out < r.states → again < r.states → Ready B → Ready (stmt_code K N count s out again B)
    stmt count S (Set x e) out again B n a f u m l lo la h =
        one S e (λ next. SetAt x (residual e (length B.regs)) next) B a f.1 u m l (λ w. ((let y = f.0 in omega arith), w, h.entry)) h
    stmt count S (SetCell b i e) out again B n a f u m l lo la h =
        two S e i (λ next. CellAt b (residual i (length B.regs)) (residual e (length B.regs + operation_count i)) next) B a f.2 f.1 u.1 u.0 m.1 m.0 l (λ x y. (a b f.0, x, y, h.entry)) h
    stmt count S (SetCellBy b i o k e) out again B n a f u m l lo la h =
        two S e i (λ next. CellAt b (residual i (length B.regs)) (old_with o k (K.arrays b) (CellOf b (residual i (length B.regs))) (residual e (length B.regs + operation_count i))) next) B a f.2 f.1 u.1 u.0 m.1 m.0 l (λ x y. (a b f.0, x, ((a b f.0, x), y), h.entry)) h
    stmt count S (Store d i e) out again B n a f u m l lo la h =
        two S e i (λ next. StoreAt d (residual i (length B.regs)) (residual e (length B.regs + operation_count i)) next) B a f.1 f.0 u.1 u.0 m.2 m.1 l (λ x y. (m.0, x, y, h.entry)) h
    stmt count S (StoreBy d i o k e) out again B n a f u m l lo la h =
        let p = λ (next : ℕ). StoreAt d (residual i (length B.regs + 1)) (old_with o k (K.memories d) (Reg (length B.regs)) (residual e (length B.regs + 1 + operation_count i))) next in
        let q = λ (t next : ℕ). LoadAt d (residual i (t + 1)) (Some t) next in
        let A = emit N p B in
        let H = emit_held N (K.memories d) q A in
        let C = operations K N i H in
        let lh = length-append B.regs (K.memories d ∷ []) in
        let li = regs_ops K N i H in
        let le = regs_ops K N e C in
        let wi = names S i (length B.regs + 1) a f.0 (omega arith) in
        let we = names S e (length B.regs + 1 + operation_count i) a f.1 (omega arith) in
        let t : length B.regs < r.registers = omega arith in
        let ready = put p B h (m.0, wi, (t, we), h.entry) in
        ops S e C a f.1 u.1 m.2 l (ops S i H a f.0 u.0 m.1 (omega arith) (hold (K.memories d) q A ready (m.0, wi, t, ready.entry)))
    stmt count S (ReadVar s x) out again B n a f u m l lo la h =
        let p = λ (next : ℕ). SetAt x (Converted (K.streams s) (K.vars x) (Reg (length B.regs))) next in
        let lh = length-append B.regs (K.streams s ∷ []) in
        let t : length B.regs < r.registers = omega arith in
        let ready = put p B h ((let y : x < c = f in omega arith), t, h.entry) in
        hold (K.streams s) (λ t next. ReadAt s (Some t) next) (emit N p B) ready (u, t, ready.entry)
    stmt count S (ReadCell s b i) out again B n a f u m l lo la h =
        let p = λ (next : ℕ). CellAt b (residual i (length B.regs + 1)) (Converted (K.streams s) (K.arrays b) (Reg (length B.regs))) next in
        let H = emit_held N (K.streams s) (λ t next. ReadAt s (Some t) next) (emit N p B) in
        let lh = length-append B.regs (K.streams s ∷ []) in
        let li = regs_ops K N i H in
        let t : length B.regs < r.registers = omega arith in
        let wi = names S i (length B.regs + 1) a f.1 (omega arith) in
        let ready = put p B h (a b f.0, wi, t, h.entry) in
        ops S i H a f.1 u.1 m l (hold (K.streams s) (λ t next. ReadAt s (Some t) next) (emit N p B) ready (u.0, t, ready.entry))
    stmt count S (ReadStore s d i) out again B n a f u m l lo la h =
        let p = λ (next : ℕ). StoreAt d (residual i (length B.regs + 1)) (Converted (K.streams s) (K.memories d) (Reg (length B.regs))) next in
        let H = emit_held N (K.streams s) (λ t next. ReadAt s (Some t) next) (emit N p B) in
        let lh = length-append B.regs (K.streams s ∷ []) in
        let li = regs_ops K N i H in
        let t : length B.regs < r.registers = omega arith in
        let wi = names S i (length B.regs + 1) a f (omega arith) in
        let ready = put p B h (m.0, wi, t, h.entry) in
        ops S i H a f u.1 m.1 l (hold (K.streams s) (λ t next. ReadAt s (Some t) next) (emit N p B) ready (u.0, t, ready.entry))
    stmt count S (Write s e) out again B n a f u m l lo la h =
        one S e (λ next. WriteAt s (residual e (length B.regs)) next) B a f u.1 m l (λ w. (u.0, w, h.entry)) h
    stmt count S (Open s) out again B n a f u m l lo la h = put (λ next. OpenAt s next) B h (u, h.entry)
    stmt count S (Close s) out again B n a f u m l lo la h = put (λ next. CloseAt s next) B h (u, h.entry)
    stmt count S (Discard e) out again B n a f u m l lo la h = alone S e B a f u m l h
    stmt count S (Clear b) out again B n a f u m l lo la h = put (λ next. ClearAt b count next) B h (f, n, h.entry)
    stmt count S (If' e p left q right) out again B n a f u m l lo la h =
        let R = block_code K N count right out again B in
        let L = block_code K N count left out again (going_to B.entry R) in
        let gt = (grows_test K N e R.entry L).regs in
        let gl = (grows_block K N count left out again (going_to B.entry R)).regs in
        let ready = block count S right out again B n a f.2 u.2 m.2 (omega arith) lo la h in
        test S e R.entry L a f.0 u.0 m.0 l ready.entry (block count S left out again (going_to B.entry R) n a f.1 u.1 m.1 (omega arith) lo la (go B.entry R ready h.entry))
    stmt count S (Loop' e p body q step) out again B n a f u m l lo la h =
        let head = N - (length B.places + (size_of_block step + size_of_block body + (1 + operation_count e))) in
        let Z = block_code K N count step B.entry head (going_to head B) in
        let L = block_code K N count body B.entry Z.entry Z in
        let gt = (grows_test K N e B.entry L).regs in
        let gl = (grows_block K N count body B.entry Z.entry Z).regs in
        let some = h.some in
        let lh : head < r.states = omega arith in
        let ready = block count S step B.entry head (going_to head B) n a f.2 u.2 m.2 (omega arith) h.entry lh (go head B h lh) in
        test S e B.entry L a f.0 u.0 m.0 l h.entry (block count S body B.entry Z.entry Z n a f.1 u.1 m.1 (omega arith) h.entry ready.entry ready)
    stmt count S Break out again B n a f u m l lo la h = go out B h lo
    stmt count S Continue out again B n a f u m l lo la h = go again B h la

    block : {k : _} → (count : ℕ) (S : List ℕ) (b : Row_of-Stmt k) (out again : ℕ) (B : Emitted) → count < r.registers → AreArrays r.arrays S → FitsBlock c r.arrays S b → UsesBlock r.writes b → AsksBlock r.memories b → length (block_code K N count b out again B).regs ≤ r.registers → out < r.states → again < r.states → Ready B → Ready (block_code K N count b out again B)
    block count S end_of-Stmt out again B n a f u m l lo la h = h
    block count S (more_of-Stmt s rest) out again B n a f u m l lo la h =
        let C = block_code K N count rest out again B in
        let g = (grows_stmt K N count s out again C).regs in
        stmt count S s out again C n a f.0 u.0 m.0 l lo la (block count (cleared_by s S) rest out again B n (arrays_after S s f.0 a) f.1 u.1 m.1 (omega arith) lo la h)

  list : (count : ℕ) (S : List ℕ) (code : List Stmt) (out again : ℕ) (B : Emitted) → count < r.registers → AreArrays r.arrays S → FitsCode c r.arrays S code → UsesCode r.writes code → AsksCode r.memories code → length (list_code K N count code out again B).regs ≤ r.registers → out < r.states → again < r.states → Ready B → Ready (list_code K N count code out again B)
  list count S [] out again B n a f u m l lo la h = h
  list count S (s ∷ rest) out again B n a f u m l lo la h =
      let C = list_code K N count rest out again B in
      let g = (grows_stmt K N count s out again C).regs in
      stmt count S s out again C n a f.1 u.0 m.0 l lo la (list count (cleared_by s S) rest out again B n (arrays_after S s f.1 a) f.2 u.1 m.1 (omega arith) lo la h)

-- the ranges of a leaf's machine
abbrev leaf_ranges : Leaf → Ranges
leaf_ranges leaf = record {
  registers = length (leaf_code leaf).regs;
  arrays = length leaf.arrays.items;
  memories = length leaf.memories.items;
  states = length (leaf_code leaf).places - 1;
  writes = writes_of leaf.streams.items;
}

no_arrays : (A : ℕ) → AreArrays A []
no_arrays A a e = absurd e

pub ranged_leaf : (leaf : Leaf) → IsLeaf leaf → AreInRange (leaf_ranges leaf) (leaf_code leaf).places
ranged_leaf leaf is =
    let z = size_of_list leaf.code.items in
    let r = leaf_ranges leaf in
    let e = size_leaf leaf in
    let g = (grows_list (kinds_of leaf) (z + 2) (length leaf.vars.items) leaf.code.items z z (last_code (z + 2) leaf)).regs in
    let lb = length-append leaf.vars.items (kind.U32 ∷ []) in
    let vars : length leaf.vars.items ≤ r.registers = omega arith in
    let count : length leaf.vars.items < r.registers = omega arith in
    let big : 2 ≤ z + 2 = omega arith in
    let states : r.states ≡ z + 2 - 1 = omega arith in
    let out : z < r.states = omega arith in
    let first : Ready (kinds_of leaf) r (length leaf.vars.items) (z + 2) vars big states (last_code (z + 2) leaf) = record { places = (tt, (tt, tt)); entry = omega arith; some = omega arith } in
    (list (kinds_of leaf) r (length leaf.vars.items) (z + 2) vars big states (length leaf.vars.items) [] leaf.code.items z z (last_code (z + 2) leaf) count (no_arrays r.arrays) is.fits is.uses is.asks (omega arith) out out first).places
