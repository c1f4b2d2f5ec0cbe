-- What is compiled stays, and has as many places as were counted.
use Rattle.std.proofs.Common.{◌≡◌, ℕ, ◌+◌, ◌-◌, ◌≤◌, List, [], ◌∷◌, ◌++◌, length, Some, None, ◌<◌, refl, sym, ap, ◌∙◌, arith, append_assoc, length-append}
use Rattle.std.specs.Prelude.{slice_get, slice_index_or}
use Rattle.std.proofs.Math.Seq.{get_or-append_seam}
use Rattle.std.proofs.lemmas.List.{append-nil}
use Rattle.std.proofs.lemmas.Option.{slice_get-get_or}
use Rattle.tapa_base.specs.declared.kind.Kind.{Kind}
use Rattle.tapa_base.specs.declared.kind.Kind.TheVariants.{Bool}
use Rattle.tapa_syntax.specs.declared.program.Expr.{Expr}
use Rattle.tapa_syntax.specs.declared.program.Expr.TheVariants.{Lit, Var, Cell', Read, Peek, Eot, Load', Conv', Apply', Flip', Not', And', Or', Choose'}
use Rattle.tapa_syntax.specs.declared.program.Stmt.{Stmt, Row_of-Stmt, end_of-Stmt, more_of-Stmt}
use Rattle.tapa_syntax.specs.declared.program.Stmt.TheVariants.{Set, SetCell, SetCellBy, Store, StoreBy, ReadVar, ReadCell, ReadStore, Write, Open, Close, Discard, Clear, If', Loop', Break, Continue}
use Rattle.tapa_syntax.specs.LeafKinds.{Kinds}
use Rattle.task_fsm.specs.Machine.{StateForm, SetAt, CellAt, TestAt, ReadAt, WriteAt, PeekAt, EotAt, OpenAt, CloseAt, LoadAt, StoreAt, ClearAt, Converted, Reg, CellOf}
use Rattle.task_fsm.specs.Code.{Emitted, emit, emit_held, going_to, residual, operations, discarded, old_with, test_code, stmt_code, block_code}
use Rattle.tapa_syntax.specs.TickPlaces.{operation_count, size_of, size_of_block}

-- the second list ends with the first
pub record IsTail (xs ys : List StateForm) : Type 0 where
  pub before : List StateForm
  pub joins : ys ≡ before ++ xs

pub tail_trans : (a b c : List StateForm) → IsTail a b → IsTail b c → IsTail a c
tail_trans a b c p q = record {
  before = q.before ++ p.before;
  joins = q.joins ∙ ap (λ l. q.before ++ l) p.joins ∙ sym (append_assoc q.before p.before a);
}

-- the second list begins with the first
pub record IsFront (xs ys : List Kind) : Type 0 where
  pub after : List Kind
  pub joins : ys ≡ xs ++ after

pub front_trans : (a b c : List Kind) → IsFront a b → IsFront b c → IsFront a c
front_trans a b c p q = record {
  after = p.after ++ q.after;
  joins = q.joins ∙ ap (λ l. l ++ q.after) p.joins ∙ append_assoc a p.after q.after;
}

-- n more places
pub record Grows (n : ℕ) (B C : Emitted) : Type 0 where
  pub tail : IsTail B.places C.places
  pub size : length C.places ≡ length B.places + n
  pub regs : length B.regs ≤ length C.regs
  pub front : IsFront B.regs C.regs

pub grows_trans : (n m k : ℕ) (A B C : Emitted) → k ≡ n + m → Grows n A B → Grows m B C → Grows k A C
grows_trans n m k A B C e p q =
    let p1 = p.size in let q1 = q.size in let p2 = p.regs in let q2 = q.regs in
    record { tail = tail_trans A.places B.places C.places p.tail q.tail; size = omega arith; regs = omega arith; front = front_trans A.regs B.regs C.regs p.front q.front }

pub no_more : (l : List Kind) → IsFront l l
no_more l = record { after = []; joins = sym (append-nil l) }

pub grows_none : (pc : ℕ) (B : Emitted) → Grows 0 B (going_to pc B)
grows_none pc B = record { tail = record { before = []; joins = refl }; size = omega arith; regs = omega arith; front = no_more B.regs }

pub grows_from : (n pc : ℕ) (B C : Emitted) → Grows n (going_to pc B) C → Grows n B C
grows_from n pc B C g = record { tail = g.tail; size = g.size; regs = g.regs; front = g.front }

pub grows_put : (N : ℕ) (p : ℕ → StateForm) (B : Emitted) → Grows 1 B (emit N p B)
grows_put N p B = record { tail = record { before = p B.entry ∷ []; joins = refl }; size = omega arith; regs = omega arith; front = no_more B.regs }

pub grows_hold : (N : ℕ) (kind : Kind) (p : ℕ → ℕ → StateForm) (B : Emitted) → Grows 1 B (emit_held N kind p B)
grows_hold N kind p B = record {
  tail = record { before = p (length B.regs) B.entry ∷ []; joins = refl };
  size = omega arith;
  regs = omega (arith, length-append B.regs (kind ∷ []));
  front = record { after = kind ∷ []; joins = refl };
}

pub grows_ops : (K : Kinds) (N : ℕ) (e : Expr) (B : Emitted) → Grows (operation_count e) B (operations K N e B)
grows_ops K N (Lit kind n) B = grows_none B.entry B
grows_ops K N (Var x) B = grows_none B.entry B
grows_ops K N (Cell' a p e) B = grows_ops K N e B
grows_ops K N (Read s) B = grows_hold N (K.streams s) (λ t next. ReadAt s (Some t) next) B
grows_ops K N (Peek s) B = grows_hold N (K.streams s) (λ t next. PeekAt s (Some t) next) B
grows_ops K N (Eot s) B = grows_hold N Bool (λ t next. EotAt s (Some t) next) B
grows_ops K N (Load' m p e) B =
    grows_trans 1 (operation_count e) (1 + operation_count e) B _ _ refl (grows_hold N (K.memories m) (λ t next. LoadAt m (residual e (t + 1)) (Some t) next) B) (grows_ops K N e (emit_held N (K.memories m) (λ t next. LoadAt m (residual e (t + 1)) (Some t) next) B))
grows_ops K N (Conv' source target p e) B = grows_ops K N e B
grows_ops K N (Apply' op kind p l q r) B = grows_trans (operation_count r) (operation_count l) (operation_count r + operation_count l) B _ _ refl (grows_ops K N r B) (grows_ops K N l (operations K N r B))
grows_ops K N (Flip' kind p e) B = grows_ops K N e B
grows_ops K N (Not' p e) B = grows_ops K N e B
grows_ops K N (And' p l q r) B = grows_trans (operation_count r) (operation_count l) (operation_count r + operation_count l) B _ _ refl (grows_ops K N r B) (grows_ops K N l (operations K N r B))
grows_ops K N (Or' p l q r) B = grows_trans (operation_count r) (operation_count l) (operation_count r + operation_count l) B _ _ refl (grows_ops K N r B) (grows_ops K N l (operations K N r B))
grows_ops K N (Choose' p e q a r b) B =
    grows_trans (operation_count b + operation_count a) (operation_count e) (operation_count b + operation_count a + operation_count e) B _ _ refl (grows_trans (operation_count b) (operation_count a) (operation_count b + operation_count a) B _ _ refl (grows_ops K N b B) (grows_ops K N a (operations K N b B))) (grows_ops K N e (operations K N a (operations K N b B)))

-- an expression takes a register for each operation
pub regs_ops : (K : Kinds) (N : ℕ) (e : Expr) (B : Emitted) → length (operations K N e B).regs ≡ length B.regs + operation_count e
regs_ops K N (Lit kind n) B = omega arith
regs_ops K N (Var x) B = omega arith
regs_ops K N (Cell' a p e) B = regs_ops K N e B
regs_ops K N (Read s) B = omega (arith, length-append B.regs (K.streams s ∷ []))
regs_ops K N (Peek s) B = omega (arith, length-append B.regs (K.streams s ∷ []))
regs_ops K N (Eot s) B = omega (arith, length-append B.regs (Bool ∷ []))
regs_ops K N (Load' m p e) B =
    let h = regs_ops K N e (emit_held N (K.memories m) (λ t next. LoadAt m (residual e (t + 1)) (Some t) next) B) in
    let l = length-append B.regs (K.memories m ∷ []) in
    omega arith
regs_ops K N (Conv' source target p e) B = regs_ops K N e B
regs_ops K N (Apply' op kind p l q r) B =
    let h = regs_ops K N r B in let g = regs_ops K N l (operations K N r B) in omega arith
regs_ops K N (Flip' kind p e) B = regs_ops K N e B
regs_ops K N (Not' p e) B = regs_ops K N e B
regs_ops K N (And' p l q r) B =
    let h = regs_ops K N r B in let g = regs_ops K N l (operations K N r B) in omega arith
regs_ops K N (Or' p l q r) B =
    let h = regs_ops K N r B in let g = regs_ops K N l (operations K N r B) in omega arith
regs_ops K N (Choose' p e q a r b) B =
    let h = regs_ops K N b B in
    let g = regs_ops K N a (operations K N b B) in
    let f = regs_ops K N e (operations K N a (operations K N b B)) in
    omega arith

-- the first in time of what is emitted is the last that was emitted
pub record IsFirst (N : ℕ) (B : Emitted) : Type 0 where
  pub is : B.entry ≡ N - length B.places

pub first_put : (N : ℕ) (p : ℕ → StateForm) (B : Emitted) → IsFirst N (emit N p B)
first_put N p B = let e : length B.places + 1 ≡ length (emit N p B).places = omega arith in record { is = ap (λ k. N - k) e }

pub first_hold : (N : ℕ) (kind : Kind) (p : ℕ → ℕ → StateForm) (B : Emitted) → IsFirst N (emit_held N kind p B)
first_hold N kind p B =
    let e : length B.places + 1 ≡ length (emit_held N kind p B).places = omega arith in record { is = ap (λ k. N - k) e }

pub first_ops : (K : Kinds) (N : ℕ) (e : Expr) (B : Emitted) → IsFirst N B → IsFirst N (operations K N e B)
first_ops K N (Lit kind n) B h = h
first_ops K N (Var x) B h = h
first_ops K N (Cell' a p e) B h = first_ops K N e B h
first_ops K N (Read s) B h = first_hold N (K.streams s) (λ t next. ReadAt s (Some t) next) B
first_ops K N (Peek s) B h = first_hold N (K.streams s) (λ t next. PeekAt s (Some t) next) B
first_ops K N (Eot s) B h = first_hold N Bool (λ t next. EotAt s (Some t) next) B
first_ops K N (Load' m p e) B h =
    first_ops K N e (emit_held N (K.memories m) (λ t next. LoadAt m (residual e (t + 1)) (Some t) next) B) (first_hold N (K.memories m) (λ t next. LoadAt m (residual e (t + 1)) (Some t) next) B)
first_ops K N (Conv' source target p e) B h = first_ops K N e B h
first_ops K N (Apply' op kind p l q r) B h = first_ops K N l (operations K N r B) (first_ops K N r B h)
first_ops K N (Flip' kind p e) B h = first_ops K N e B h
first_ops K N (Not' p e) B h = first_ops K N e B h
first_ops K N (And' p l q r) B h = first_ops K N l (operations K N r B) (first_ops K N r B h)
first_ops K N (Or' p l q r) B h = first_ops K N l (operations K N r B) (first_ops K N r B h)
first_ops K N (Choose' p e q a r b) B h = first_ops K N e (operations K N a (operations K N b B)) (first_ops K N a (operations K N b B) (first_ops K N b B h))

pub first_test : (K : Kinds) (N : ℕ) (e : Expr) (other : ℕ) (B : Emitted) → IsFirst N (test_code K N e other B)
first_test K N e other B =
    let p = λ (next : ℕ). TestAt (residual e (length B.regs)) next other in
    first_ops K N e (emit N p B) (first_put N p B)

-- one expression's operations before a place
pub grows_one : (K : Kinds) (N : ℕ) (e : Expr) (p : ℕ → StateForm) (B : Emitted) → Grows (1 + operation_count e) B (operations K N e (emit N p B))
grows_one K N e p B = grows_trans 1 (operation_count e) (1 + operation_count e) B _ _ refl (grows_put N p B) (grows_ops K N e (emit N p B))

pub grows_two : (K : Kinds) (N : ℕ) (e i : Expr) (p : ℕ → StateForm) (B : Emitted) → Grows (1 + operation_count i + operation_count e) B (operations K N e (operations K N i (emit N p B)))
grows_two K N e i p B =
    grows_trans (1 + operation_count i) (operation_count e) (1 + operation_count i + operation_count e) B _ _ refl (grows_one K N i p B) (grows_ops K N e (operations K N i (emit N p B)))

-- and before a place with a register
pub grows_held : (K : Kinds) (N : ℕ) (e : Expr) (kind : Kind) (p : ℕ → ℕ → StateForm) (B : Emitted) → Grows (1 + operation_count e) B (operations K N e (emit_held N kind p B))
grows_held K N e kind p B =
    grows_trans 1 (operation_count e) (1 + operation_count e) B _ _ refl (grows_hold N kind p B) (grows_ops K N e (emit_held N kind p B))

pub grows_test : (K : Kinds) (N : ℕ) (e : Expr) (other : ℕ) (B : Emitted) → Grows (1 + operation_count e) B (test_code K N e other B)
grows_test K N e other B = grows_one K N e (λ next. TestAt (residual e (length B.regs)) next other) B

pub grows_alone : (K : Kinds) (N : ℕ) (e : Expr) (B : Emitted) → Grows (operation_count e) B (discarded K N e B)
grows_alone K N (Read s) B = grows_put N (λ next. ReadAt s None next) B
grows_alone K N (Peek s) B = grows_put N (λ next. PeekAt s None next) B
grows_alone K N (Eot s) B = grows_put N (λ next. EotAt s None next) B
grows_alone K N (Load' m p e) B = grows_one K N e (λ next. LoadAt m (residual e (length B.regs)) None next) B
grows_alone K N (Lit kind n) B = grows_ops K N (Lit kind n) B
grows_alone K N (Var x) B = grows_ops K N (Var x) B
grows_alone K N (Cell' a p e) B = grows_ops K N (Cell' a p e) B
grows_alone K N (Conv' source target p e) B = grows_ops K N (Conv' source target p e) B
grows_alone K N (Apply' op kind p l q r) B = grows_ops K N (Apply' op kind p l q r) B
grows_alone K N (Flip' kind p e) B = grows_ops K N (Flip' kind p e) B
grows_alone K N (Not' p e) B = grows_ops K N (Not' p e) B
grows_alone K N (And' p l q r) B = grows_ops K N (And' p l q r) B
grows_alone K N (Or' p l q r) B = grows_ops K N (Or' p l q r) B
grows_alone K N (Choose' p e q a r b) B = grows_ops K N (Choose' p e q a r b) B

mutual
  pub grows_stmt : (K : Kinds) (N c : ℕ) (s : Stmt) (out again : ℕ) (B : Emitted) → Grows (size_of s) B (stmt_code K N c s out again B)
  grows_stmt K N c (Set x e) out again B = grows_one K N e (λ next. SetAt x (residual e (length B.regs)) next) B
  grows_stmt K N c (SetCell a i e) out again B =
      grows_two K N e i (λ next. CellAt a (residual i (length B.regs)) (residual e (length B.regs + operation_count i)) next) B
  grows_stmt K N c (SetCellBy a i op kind e) out again B =
      grows_two K N e i (λ next. CellAt a (residual i (length B.regs)) (old_with op kind (K.arrays a) (CellOf a (residual i (length B.regs))) (residual e (length B.regs + operation_count i))) next) B
  grows_stmt K N c (Store m i e) out again B =
      grows_two K N e i (λ next. StoreAt m (residual i (length B.regs)) (residual e (length B.regs + operation_count i)) next) B
  grows_stmt K N c (StoreBy m i op kind e) out again B =
      let p = λ (next : ℕ). StoreAt m (residual i (length B.regs + 1)) (old_with op kind (K.memories m) (Reg (length B.regs)) (residual e (length B.regs + 1 + operation_count i))) next in
      let q = λ (t next : ℕ). LoadAt m (residual i (t + 1)) (Some t) next in
      grows_trans (2 + operation_count i) (operation_count e) (2 + operation_count i + operation_count e) B _ _ refl (grows_trans 1 (1 + operation_count i) (2 + operation_count i) B _ _ (omega arith) (grows_put N p B) (grows_held K N i (K.memories m) q (emit N p B))) (grows_ops K N e (operations K N i (emit_held N (K.memories m) q (emit N p B))))
  grows_stmt K N c (ReadVar s x) out again B =
      let p = λ (next : ℕ). SetAt x (Converted (K.streams s) (K.vars x) (Reg (length B.regs))) next in
      grows_trans 1 1 2 B _ _ refl (grows_put N p B) (grows_hold N (K.streams s) (λ t next. ReadAt s (Some t) next) (emit N p B))
  grows_stmt K N c (ReadCell s a i) out again B =
      let p = λ (next : ℕ). CellAt a (residual i (length B.regs + 1)) (Converted (K.streams s) (K.arrays a) (Reg (length B.regs))) next in
      grows_trans 1 (1 + operation_count i) (2 + operation_count i) B _ _ (omega arith) (grows_put N p B) (grows_held K N i (K.streams s) (λ t next. ReadAt s (Some t) next) (emit N p B))
  grows_stmt K N c (ReadStore s m i) out again B =
      let p = λ (next : ℕ). StoreAt m (residual i (length B.regs + 1)) (Converted (K.streams s) (K.memories m) (Reg (length B.regs))) next in
      grows_trans 1 (1 + operation_count i) (2 + operation_count i) B _ _ (omega arith) (grows_put N p B) (grows_held K N i (K.streams s) (λ t next. ReadAt s (Some t) next) (emit N p B))
  grows_stmt K N c (Write s e) out again B = grows_one K N e (λ next. WriteAt s (residual e (length B.regs)) next) B
  grows_stmt K N c (Open s) out again B = grows_put N (λ next. OpenAt s next) B
  grows_stmt K N c (Close s) out again B = grows_put N (λ next. CloseAt s next) B
  grows_stmt K N c (Discard e) out again B = grows_alone K N e B
  grows_stmt K N c (Clear a) out again B = grows_put N (λ next. ClearAt a c next) B
  grows_stmt K N c (If' e p left q right) out again B =
      let R = block_code K N c right out again B in
      let L = block_code K N c left out again (going_to B.entry R) in
      grows_trans (size_of_block right + size_of_block left) (1 + operation_count e) (size_of_block right + size_of_block left + (1 + operation_count e)) B _ _ refl (grows_trans (size_of_block right) (size_of_block left) (size_of_block right + size_of_block left) B _ _ refl (grows_block K N c right out again B) (grows_from (size_of_block left) B.entry R L (grows_block K N c left out again (going_to B.entry R)))) (grows_test K N e R.entry L)
  grows_stmt K N c (Loop' e p body q step) out again B =
      let head = N - (length B.places + (size_of_block step + size_of_block body + (1 + operation_count e))) in
      let S = block_code K N c step B.entry head (going_to head B) in
      let L = block_code K N c body B.entry S.entry S in
      grows_trans (size_of_block step + size_of_block body) (1 + operation_count e) (size_of_block step + size_of_block body + (1 + operation_count e)) B _ _ refl (grows_trans (size_of_block step) (size_of_block body) (size_of_block step + size_of_block body) B _ _ refl (grows_from (size_of_block step) head B S (grows_block K N c step B.entry head (going_to head B))) (grows_block K N c body B.entry S.entry S)) (grows_test K N e B.entry L)
  grows_stmt K N c Break out again B = grows_none out B
  grows_stmt K N c Continue out again B = grows_none again B

  pub grows_block : {m : _} → (K : Kinds) (N c : ℕ) (s : Row_of-Stmt m) (out again : ℕ) (B : Emitted) → Grows (size_of_block s) B (block_code K N c s out again B)
  grows_block K N c end_of-Stmt out again B = grows_none B.entry B
  grows_block K N c (more_of-Stmt s rest) out again B =
      grows_trans (size_of_block rest) (size_of s) (size_of_block rest + size_of s) B _ _ refl (grows_block K N c rest out again B) (grows_stmt K N c s out again (block_code K N c rest out again B))

-- the place that was emitted last stands at its number
pub stands : (p : StateForm) (xs places : List StateForm) → IsTail (p ∷ xs) places → slice_get places (length places - (length xs + 1)) ≡ Some p
stands p xs places t =
    let l = ap length t.joins ∙ length-append t.before (p ∷ xs) in
    let e : length places - (length xs + 1) ≡ length t.before = omega arith in
    let w : length t.before < length places = omega arith in
    ap (λ k. slice_get places k) e
    ∙ slice_get-get_or places (length t.before) p w
    ∙ ap (λ (l : List StateForm). Some (slice_index_or l (length t.before) p)) t.joins
    ∙ ap Some (get_or-append_seam t.before p xs p)
