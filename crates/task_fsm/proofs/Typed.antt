-- The machine of a typed leaf is typed.
use Rattle.std.proofs.Common.{◌≡◌, ℕ, zero, suc, ◌+◌, ◌-◌, ◌*◌, ◌<◌, List, [], ◌∷◌, ◌++◌, length, Some, None, refl, sym, ap, ◌∙◌, subst, arith, length-append}
use Rattle.std.specs.Prelude.{◌^◌, slice_index_or}
use Rattle.std.proofs.lemmas.List.{get_or_append_left, get_or-append-add}
use Rattle.tapa_base.specs.declared.kind.Kind.{Kind}
use Rattle.tapa_base.specs.declared.kind.Kind.TheVariants as kind
use Rattle.tapa_base.specs.declared.op.Op.{Op}
use Rattle.tapa_base.specs.declared.op.Op.TheVariants as op
use Rattle.tapa_base.specs.Kinds.{bits_of, converted}
use Rattle.tapa_base.specs.Operators.{applied}
use Rattle.tapa_syntax.specs.declared.program.Expr.{Expr}
use Rattle.tapa_syntax.specs.declared.program.Expr.TheVariants.{Lit, Var, Cell', Read, Peek, Eot, Load', Conv', Apply', Flip', Not', And', Or', Choose'}
use Rattle.tapa_syntax.specs.declared.program.Stmt.{Stmt, Row_of-Stmt, end_of-Stmt, more_of-Stmt}
use Rattle.tapa_syntax.specs.declared.program.Stmt.TheVariants.{Set, SetCell, SetCellBy, Store, StoreBy, ReadVar, ReadCell, ReadStore, Write, Open, Close, Discard, Clear, If', Loop', Break, Continue}
use Rattle.tapa_syntax.specs.LeafKinds.{Kinds}
use Rattle.tapa_syntax.specs.ArrayUse.{FitsExpr, FitsStmt, FitsBlock, FitsCode, cleared_by}
use Rattle.tapa_syntax.specs.Typed.{HasKind, MayDivide, IsConstant, by_zero, constant, IsTyped, AreTyped, IsTypedCode, right_kind, result_kind}
use Rattle.kahn_model.specs.Trace.{State, at_zero}
use Rattle.task_fsm.specs.Machine.{Expression, Reg, CellOf, Converted, StateForm, SetAt, CellAt, TestAt, ReadAt, WriteAt, LoadAt, StoreAt}
use Rattle.task_fsm.specs.Run.{value}
use Rattle.task_fsm.specs.MachineKinds.{with_registers, IsFixed, IsDivisor, GivesKind, IsOfKind, IsTypedState, AreTypedStates}
use Rattle.task_fsm.specs.Code.{Emitted, emit, emit_held, going_to, residual, operations, discarded, old_with, test_code, stmt_code, block_code, list_code}
use Rattle.tapa_syntax.specs.TickPlaces.{operation_count, size_of_block}
use Rattle.task_fsm.proofs.Grows.{IsFront, front_trans, grows_ops, grows_test, grows_stmt, grows_block, regs_ops}
use Rattle.task_fsm.proofs.Simulates.{two}

-- the registers from t on have the kinds of the expression's operations
abbrev pub HasRegisters : Kinds → List Kind → ℕ → Expr → Type 0
HasRegisters K F t (Lit k n) = Unit {0}
HasRegisters K F t (Var x) = Unit {0}
HasRegisters K F t (Cell' a p e) = HasRegisters K F t e
HasRegisters K F t (Read s) = slice_index_or F t kind.U64 ≡ K.streams s
HasRegisters K F t (Peek s) = slice_index_or F t kind.U64 ≡ K.streams s
HasRegisters K F t (Eot s) = slice_index_or F t kind.U64 ≡ kind.Bool
HasRegisters K F t (Load' m p e) = (slice_index_or F t kind.U64 ≡ K.memories m) × HasRegisters K F (t + 1) e
HasRegisters K F t (Conv' source target p e) = HasRegisters K F t e
HasRegisters K F t (Apply' o k p l q r) = HasRegisters K F t r × HasRegisters K F (t + operation_count r) l
HasRegisters K F t (Flip' k p e) = HasRegisters K F t e
HasRegisters K F t (Not' p e) = HasRegisters K F t e
HasRegisters K F t (And' p l q r) = HasRegisters K F t r × HasRegisters K F (t + operation_count r) l
HasRegisters K F t (Or' p l q r) = HasRegisters K F t r × HasRegisters K F (t + operation_count r) l
HasRegisters K F t (Choose' p e q a r b) = HasRegisters K F t b × HasRegisters K F (t + operation_count b) a × HasRegisters K F (t + (operation_count b + operation_count a)) e

-- a choice by a value
same_choice : (v a b : ℕ) → at_zero v a b ≡ by_zero v a b
same_choice zero a b = refl
same_choice (suc v) a b = refl

chosen : (v w x x' y y' : ℕ) → v ≡ w → x ≡ x' → y ≡ y' → at_zero v y x ≡ by_zero w y' x'
chosen v w x x' y y' p q r = same_choice v y x ∙ cc

-- the value of a constant is the same in each state
constant_value : (e : Expr) (t : ℕ) (σ : State) → IsConstant e → value (residual e t) σ ≡ constant e
constant_value (Lit k n) t σ h = refl
constant_value (Var x) t σ h = absurd h
constant_value (Cell' a p e) t σ h = absurd h
constant_value (Read s) t σ h = absurd h
constant_value (Peek s) t σ h = absurd h
constant_value (Eot s) t σ h = absurd h
constant_value (Load' m p e) t σ h = absurd h
constant_value (Conv' source target p e) t σ h = ap (converted source target) (constant_value e t σ h)
constant_value (Apply' o k p l q r) t σ h = two (applied o k) _ _ _ _ (constant_value l (t + operation_count r) σ h.0) (constant_value r t σ h.1)
constant_value (Flip' k p e) t σ h = ap (λ v. 2 ^ bits_of k - 1 - v) (constant_value e t σ h)
constant_value (Not' p e) t σ h = ap (λ v. 1 - v) (constant_value e t σ h)
constant_value (And' p l q r) t σ h = two (λ v w. v * w) _ _ _ _ (constant_value l (t + operation_count r) σ h.0) (constant_value r t σ h.1)
constant_value (Or' p l q r) t σ h = two (λ v w. 1 - (1 - v) * (1 - w)) _ _ _ _ (constant_value l (t + operation_count r) σ h.0) (constant_value r t σ h.1)
constant_value (Choose' p e q a r b) t σ h =
    chosen _ _ _ _ _ _ (constant_value e (t + (operation_count b + operation_count a)) σ h.0) (constant_value a (t + operation_count b) σ h.1) (constant_value b t σ h.2)

fixed : (e : Expr) (t : ℕ) → IsConstant e → IsFixed (residual e t)
fixed (Lit k n) t h = tt
fixed (Var x) t h = absurd h
fixed (Cell' a p e) t h = absurd h
fixed (Read s) t h = absurd h
fixed (Peek s) t h = absurd h
fixed (Eot s) t h = absurd h
fixed (Load' m p e) t h = absurd h
fixed (Conv' source target p e) t h = fixed e t h
fixed (Apply' o k p l q r) t h = (fixed l (t + operation_count r) h.0, fixed r t h.1)
fixed (Flip' k p e) t h = fixed e t h
fixed (Not' p e) t h = fixed e t h
fixed (And' p l q r) t h = (fixed l (t + operation_count r) h.0, fixed r t h.1)
fixed (Or' p l q r) t h = (fixed l (t + operation_count r) h.0, fixed r t h.1)
fixed (Choose' p e q a r b) t h = (fixed e (t + (operation_count b + operation_count a)) h.0, fixed a (t + operation_count b) h.1, fixed b t h.2)

never_zero : (e : Expr) (t : ℕ) → IsConstant e × (0 < constant e) → IsFixed (residual e t) × ((σ : State) → 0 < value (residual e t) σ)
never_zero e t h = (fixed e t h.0, λ σ. subst (λ v. 0 < v) (sym (constant_value e t σ h.0)) h.1)

divides : (o : Op) (e : Expr) (t : ℕ) → MayDivide o e → IsDivisor o (residual e t)
divides op.Add e t h = tt
divides op.Sub e t h = tt
divides op.Mul e t h = tt
divides op.Div e t h = never_zero e t h
divides op.Rem e t h = never_zero e t h
divides op.And e t h = tt
divides op.Or e t h = tt
divides op.Xor e t h = tt
divides op.Shl e t h = tt
divides op.Shr e t h = tt
divides op.Eq e t h = tt
divides op.Ne e t h = tt
divides op.Lt e t h = tt
divides op.Le e t h = tt
divides op.Gt e t h = tt
divides op.Ge e t h = tt

gives_result : (o : Op) (j k : Kind) → result_kind o j ≡ k → GivesKind o j k
gives_result op.Add j k e = e
gives_result op.Sub j k e = e
gives_result op.Mul j k e = e
gives_result op.Div j k e = e
gives_result op.Rem j k e = e
gives_result op.And j k e = e
gives_result op.Or j k e = e
gives_result op.Xor j k e = e
gives_result op.Shl j k e = e
gives_result op.Shr j k e = e
gives_result op.Eq j k e = tt
gives_result op.Ne j k e = tt
gives_result op.Lt j k e = tt
gives_result op.Le j k e = tt
gives_result op.Gt j k e = tt
gives_result op.Ge j k e = tt

gives_own : (o : Op) (j : Kind) → GivesKind o j j
gives_own op.Add j = refl
gives_own op.Sub j = refl
gives_own op.Mul j = refl
gives_own op.Div j = refl
gives_own op.Rem j = refl
gives_own op.And j = refl
gives_own op.Or j = refl
gives_own op.Xor j = refl
gives_own op.Shl j = refl
gives_own op.Shr j = refl
gives_own op.Eq j = tt
gives_own op.Ne j = tt
gives_own op.Lt j = tt
gives_own op.Le j = tt
gives_own op.Gt j = tt
gives_own op.Ge j = tt

-- the kind of the register that comes next
new_register : (xs F : List Kind) (k : Kind) → IsFront (xs ++ k ∷ []) F → slice_index_or F (length xs) kind.U64 ≡ k
new_register xs F k f =
    let l = length-append xs (k ∷ []) in
    let e : length xs ≡ length xs + 0 = omega arith in
    ap (λ (z : List Kind). slice_index_or z (length xs) kind.U64) f.joins
    ∙ get_or_append_left (xs ++ k ∷ []) f.after kind.U64 (length xs) (omega arith)
    ∙ ap (λ n. slice_index_or (xs ++ k ∷ []) n kind.U64) e
    ∙ get_or-append-add xs (k ∷ []) 0 kind.U64

module _ (K : Kinds) (F : List Kind) (c : ℕ) (vars : (x : ℕ) → x < c → slice_index_or F x kind.U64 ≡ K.vars x) where
  has_registers : (N : ℕ) (e : Expr) (B : Emitted) → IsFront (operations K N e B).regs F → HasRegisters K F (length B.regs) e
  has_registers N (Lit k n) B f = tt
  has_registers N (Var x) B f = tt
  has_registers N (Cell' a p e) B f = has_registers N e B f
  has_registers N (Read s) B f = new_register B.regs F (K.streams s) f
  has_registers N (Peek s) B f = new_register B.regs F (K.streams s) f
  has_registers N (Eot s) B f = new_register B.regs F kind.Bool f
  has_registers N (Load' m p e) B f =
      let C = emit_held N (K.memories m) (λ t next. LoadAt m (residual e (t + 1)) (Some t) next) B in
      let g = grows_ops K N e C in (
        new_register B.regs F (K.memories m) (front_trans C.regs (operations K N e C).regs F g.front f),
        subst (λ t. HasRegisters K F t e) (length-append B.regs (K.memories m ∷ [])) (has_registers N e C f),
      )
  has_registers N (Conv' source target p e) B f = has_registers N e B f
  has_registers N (Apply' o k p l q r) B f =
      let C = operations K N r B in
      let g = grows_ops K N l C in (
        has_registers N r B (front_trans C.regs (operations K N l C).regs F g.front f),
        subst (λ t. HasRegisters K F t l) (regs_ops K N r B) (has_registers N l C f),
      )
  has_registers N (Flip' k p e) B f = has_registers N e B f
  has_registers N (Not' p e) B f = has_registers N e B f
  has_registers N (And' p l q r) B f =
      let C = operations K N r B in
      let g = grows_ops K N l C in (
        has_registers N r B (front_trans C.regs (operations K N l C).regs F g.front f),
        subst (λ t. HasRegisters K F t l) (regs_ops K N r B) (has_registers N l C f),
      )
  has_registers N (Or' p l q r) B f =
      let C = operations K N r B in
      let g = grows_ops K N l C in (
        has_registers N r B (front_trans C.regs (operations K N l C).regs F g.front f),
        subst (λ t. HasRegisters K F t l) (regs_ops K N r B) (has_registers N l C f),
      )
  has_registers N (Choose' p e q a r b) B f =
      let A = operations K N b B in
      let C = operations K N a A in
      let g = grows_ops K N e C in
      let ga = grows_ops K N a A in
      let fa = front_trans C.regs (operations K N e C).regs F g.front f in
      let la = regs_ops K N b B in
      let lc = regs_ops K N a A in
      let el : length C.regs ≡ length B.regs + (operation_count b + operation_count a) = omega arith in (
        has_registers N b B (front_trans A.regs C.regs F ga.front fa),
        subst (λ t. HasRegisters K F t a) la (has_registers N a A fa),
        subst (λ t. HasRegisters K F t e) el (has_registers N e C f),
      )

  typed_residual : (S : List ℕ) (e : Expr) (k : Kind) (t : ℕ) → HasKind K e k → FitsExpr c S e → HasRegisters K F t e → IsOfKind (with_registers K F) (residual e t) k
  typed_residual S (Lit j n) k t h f r = h
  typed_residual S (Var x) k t h f r = vars x f ∙ h
  typed_residual S (Cell' a p e) k t h f r = (h.0, typed_residual S e kind.U64 t h.1 f.1 r)
  typed_residual S (Read s) k t h f r = r ∙ h
  typed_residual S (Peek s) k t h f r = r ∙ h
  typed_residual S (Eot s) k t h f r = r ∙ h
  typed_residual S (Load' m p e) k t h f r = r.0 ∙ h.0
  typed_residual S (Conv' source target p e) k t h f r = (h.0, typed_residual S e source t h.1 f r)
  typed_residual S (Apply' o j p l q r') k t h f r =
      (gives_result o j k h.0, typed_residual S l j (t + operation_count r') h.1 f.0 r.1, typed_residual S r' (right_kind o j) t h.2 f.1 r.0, divides o r' t h.3)
  typed_residual S (Flip' j p e) k t h f r = (h.0, typed_residual S e j t h.1 f r)
  typed_residual S (Not' p e) k t h f r = (h.0, typed_residual S e kind.Bool t h.1 f r)
  typed_residual S (And' p l q r') k t h f r =
      (h.0, typed_residual S l kind.Bool (t + operation_count r') h.1 f.0 r.1, typed_residual S r' kind.Bool t h.2 f.1 r.0)
  typed_residual S (Or' p l q r') k t h f r =
      (h.0, typed_residual S l kind.Bool (t + operation_count r') h.1 f.0 r.1, typed_residual S r' kind.Bool t h.2 f.1 r.0)
  typed_residual S (Choose' p e q a r' b) k t h f r =
      (typed_residual S e kind.Bool (t + (operation_count b + operation_count a)) h.0 f.0 r.2, typed_residual S a k (t + operation_count b) h.1 f.1 r.1, typed_residual S b k t h.2 f.2 r.0)

  abbrev Typed : Emitted → Type 0
  Typed B = AreTypedStates (with_registers K F) B.places

  typed_ops : (N : ℕ) (S : List ℕ) (e : Expr) (k : Kind) (B : Emitted) → HasKind K e k → FitsExpr c S e → IsFront (operations K N e B).regs F → Typed B → Typed (operations K N e B)
  typed_ops N S (Lit j n) k B h f r t = t
  typed_ops N S (Var x) k B h f r t = t
  typed_ops N S (Cell' a p e) k B h f r t = typed_ops N S e kind.U64 B h.1 f.1 r t
  typed_ops N S (Read s) k B h f r t = (new_register B.regs F (K.streams s) r, t)
  typed_ops N S (Peek s) k B h f r t = (new_register B.regs F (K.streams s) r, t)
  typed_ops N S (Eot s) k B h f r t = (new_register B.regs F kind.Bool r, t)
  typed_ops N S (Load' m p e) k B h f r t =
      let C = emit_held N (K.memories m) (λ t next. LoadAt m (residual e (t + 1)) (Some t) next) B in
      let regs = has_registers N (Load' m p e) B r in
      typed_ops N S e kind.U64 C h.1 f r ((typed_residual S e kind.U64 (length B.regs + 1) h.1 f regs.1, regs.0), t)
  typed_ops N S (Conv' source target p e) k B h f r t = typed_ops N S e source B h.1 f r t
  typed_ops N S (Apply' o j p l q r') k B h f r t =
      let C = operations K N r' B in
      let g = grows_ops K N l C in
      typed_ops N S l j C h.1 f.0 r (typed_ops N S r' (right_kind o j) B h.2 f.1 (front_trans C.regs (operations K N l C).regs F g.front r) t)
  typed_ops N S (Flip' j p e) k B h f r t = typed_ops N S e j B h.1 f r t
  typed_ops N S (Not' p e) k B h f r t = typed_ops N S e kind.Bool B h.1 f r t
  typed_ops N S (And' p l q r') k B h f r t =
      let C = operations K N r' B in
      let g = grows_ops K N l C in
      typed_ops N S l kind.Bool C h.1 f.0 r (typed_ops N S r' kind.Bool B h.2 f.1 (front_trans C.regs (operations K N l C).regs F g.front r) t)
  typed_ops N S (Or' p l q r') k B h f r t =
      let C = operations K N r' B in
      let g = grows_ops K N l C in
      typed_ops N S l kind.Bool C h.1 f.0 r (typed_ops N S r' kind.Bool B h.2 f.1 (front_trans C.regs (operations K N l C).regs F g.front r) t)
  typed_ops N S (Choose' p e q a r' b) k B h f r t =
      let A = operations K N b B in
      let C = operations K N a A in
      let g = grows_ops K N e C in
      let ga = grows_ops K N a A in
      let fa = front_trans C.regs (operations K N e C).regs F g.front r in
      typed_ops N S e kind.Bool C h.0 f.0 r (typed_ops N S a k A h.1 f.1 fa (typed_ops N S b k B h.2 f.2 (front_trans A.regs C.regs F ga.front fa) t))

  -- one expression's operations before a place
  typed_one : (N : ℕ) (S : List ℕ) (e : Expr) (k : Kind) (p : ℕ → StateForm) (B : Emitted) → HasKind K e k → FitsExpr c S e → IsFront (operations K N e (emit N p B)).regs F → (IsOfKind (with_registers K F) (residual e (length B.regs)) k → IsTypedState (with_registers K F) (p B.entry)) → Typed B → Typed (operations K N e (emit N p B))
  typed_one N S e k p B h f r at t =
      typed_ops N S e k (emit N p B) h f r (at (typed_residual S e k (length B.regs) h f (has_registers N e (emit N p B) r)), t)

  -- and those of two
  typed_two : (N : ℕ) (S : List ℕ) (e i : Expr) (k j : Kind) (p : ℕ → StateForm) (B : Emitted) → HasKind K e k → HasKind K i j → FitsExpr c S e → FitsExpr c S i → IsFront (operations K N e (operations K N i (emit N p B))).regs F → (IsOfKind (with_registers K F) (residual i (length B.regs)) j → IsOfKind (with_registers K F) (residual e (length B.regs + operation_count i)) k → IsTypedState (with_registers K F) (p B.entry)) → Typed B → Typed (operations K N e (operations K N i (emit N p B)))
  typed_two N S e i k j p B h hi f fi r at t =
      let C = operations K N i (emit N p B) in
      let g = grows_ops K N e C in
      let ri = front_trans C.regs (operations K N e C).regs F g.front r in
      let re = subst (λ t. HasRegisters K F t e) (regs_ops K N i (emit N p B)) (has_registers N e C r) in
      typed_ops N S e k C h f r (typed_ops N S i j (emit N p B) hi fi ri (at (typed_residual S i j (length B.regs) hi fi (has_registers N i (emit N p B) ri)) (typed_residual S e k (length B.regs + operation_count i) h f re), t))

  typed_old : (o : Op) (j k : Kind) (old : Expression) (e : Expr) (t : ℕ) → IsOfKind (with_registers K F) old k → IsOfKind (with_registers K F) (residual e t) (right_kind o j) → MayDivide o e → IsOfKind (with_registers K F) (old_with o j k old (residual e t)) k
  typed_old o j k old e t ho he hd = (refl, (gives_own o j, (refl, ho), he, divides o e t hd))

  typed_test : (N : ℕ) (S : List ℕ) (e : Expr) (other : ℕ) (B : Emitted) → HasKind K e kind.Bool → FitsExpr c S e → IsFront (test_code K N e other B).regs F → Typed B → Typed (test_code K N e other B)
  typed_test N S e other B h f r t = typed_one N S e kind.Bool (λ next. TestAt (residual e (length B.regs)) next other) B h f r (λ x. x) t

  typed_alone : (N : ℕ) (S : List ℕ) (e : Expr) (k : Kind) (B : Emitted) → HasKind K e k → FitsExpr c S e → IsFront (discarded K N e B).regs F → Typed B → Typed (discarded K N e B)
  typed_alone N S (Read s) k B h f r t = (tt, t)
  typed_alone N S (Peek s) k B h f r t = (tt, t)
  typed_alone N S (Eot s) k B h f r t = (tt, t)
  typed_alone N S (Load' m p e) k B h f r t = typed_one N S e kind.U64 (λ next. LoadAt m (residual e (length B.regs)) None next) B h.1 f r (λ x. (x, tt)) t
  typed_alone N S (Lit j n) k B h f r t = typed_ops N S (Lit j n) k B h f r t
  typed_alone N S (Var x) k B h f r t = typed_ops N S (Var x) k B h f r t
  typed_alone N S (Cell' a p e) k B h f r t = typed_ops N S (Cell' a p e) k B h f r t
  typed_alone N S (Conv' source target p e) k B h f r t = typed_ops N S (Conv' source target p e) k B h f r t
  typed_alone N S (Apply' o j p l q r') k B h f r t = typed_ops N S (Apply' o j p l q r') k B h f r t
  typed_alone N S (Flip' j p e) k B h f r t = typed_ops N S (Flip' j p e) k B h f r t
  typed_alone N S (Not' p e) k B h f r t = typed_ops N S (Not' p e) k B h f r t
  typed_alone N S (And' p l q r') k B h f r t = typed_ops N S (And' p l q r') k B h f r t
  typed_alone N S (Or' p l q r') k B h f r t = typed_ops N S (Or' p l q r') k B h f r t
  typed_alone N S (Choose' p e q a r' b) k B h f r t = typed_ops N S (Choose' p e q a r' b) k B h f r t

  mutual
    typed_stmt : (N count n : ℕ) (S : List ℕ) (s : Stmt) (out again : ℕ) (B : Emitted) → slice_index_or F count kind.U64 ≡ kind.U32 → IsTyped K s → FitsStmt c n S s → IsFront (stmt_code K N count s out again B).regs F → Typed B → Typed (stmt_code K N count s out again B)
    typed_stmt N count n S (Set x e) out again B u h f r t =
        typed_one N S e (K.vars x) (λ next. SetAt x (residual e (length B.regs)) next) B h f.1 r (λ a. subst (λ k. IsOfKind (with_registers K F) (residual e (length B.regs)) k) (sym (vars x f.0)) a) t
    typed_stmt N count n S (SetCell a i e) out again B u h f r t =
        typed_two N S e i (K.arrays a) kind.U64 (λ next. CellAt a (residual i (length B.regs)) (residual e (length B.regs + operation_count i)) next) B h.1 h.0 f.2 f.1 r (λ x y. (x, y)) t
    typed_stmt N count n S (SetCellBy a i o k e) out again B u h f r t =
        typed_two N S e i (right_kind o k) kind.U64 (λ next. CellAt a (residual i (length B.regs)) (old_with o k (K.arrays a) (CellOf a (residual i (length B.regs))) (residual e (length B.regs + operation_count i))) next) B h.1 h.0 f.2 f.1 r (λ x y. (x, typed_old o k (K.arrays a) (CellOf a (residual i (length B.regs))) e (length B.regs + operation_count i) (refl, x) y h.2)) t
    typed_stmt N count n S (Store m i e) out again B u h f r t =
        typed_two N S e i (K.memories m) kind.U64 (λ next. StoreAt m (residual i (length B.regs)) (residual e (length B.regs + operation_count i)) next) B h.1 h.0 f.1 f.0 r (λ x y. (x, y)) t
    typed_stmt N count n S (StoreBy m i o k e) out again B u h f r t =
        let p = λ (next : ℕ). StoreAt m (residual i (length B.regs + 1)) (old_with o k (K.memories m) (Reg (length B.regs)) (residual e (length B.regs + 1 + operation_count i))) next in
        let q = λ (t next : ℕ). LoadAt m (residual i (t + 1)) (Some t) next in
        let A = emit N p B in
        let H = emit_held N (K.memories m) q A in
        let C = operations K N i H in
        let g = grows_ops K N e C in
        let gi = grows_ops K N i H in
        let ri = front_trans C.regs (operations K N e C).regs F g.front r in
        let rh = front_trans H.regs C.regs F gi.front ri in
        let lh = length-append B.regs (K.memories m ∷ []) in
        let li = regs_ops K N i H in
        let le : length C.regs ≡ length B.regs + 1 + operation_count i = omega arith in
        let reg = new_register B.regs F (K.memories m) rh in
        let wi = typed_residual S i kind.U64 (length B.regs + 1) h.0 f.0 (subst (λ t. HasRegisters K F t i) lh (has_registers N i H ri)) in
        let we = typed_residual S e (right_kind o k) (length B.regs + 1 + operation_count i) h.1 f.1 (subst (λ t. HasRegisters K F t e) le (has_registers N e C r)) in
        typed_ops N S e (right_kind o k) C h.1 f.1 r (typed_ops N S i kind.U64 H h.0 f.0 ri ((wi, reg), ((wi, typed_old o k (K.memories m) (Reg (length B.regs)) e (length B.regs + 1 + operation_count i) reg we h.2), t)))
    typed_stmt N count n S (ReadVar s x) out again B u h f r t =
        let reg = new_register B.regs F (K.streams s) r in (reg, ((sym (vars x f), reg), t))
    typed_stmt N count n S (ReadCell s a i) out again B u h f r t =
        let p = λ (next : ℕ). CellAt a (residual i (length B.regs + 1)) (Converted (K.streams s) (K.arrays a) (Reg (length B.regs))) next in
        let H = emit_held N (K.streams s) (λ t next. ReadAt s (Some t) next) (emit N p B) in
        let g = grows_ops K N i H in
        let reg = new_register B.regs F (K.streams s) (front_trans H.regs (operations K N i H).regs F g.front r) in
        let wi = typed_residual S i kind.U64 (length B.regs + 1) h f.1 (subst (λ t. HasRegisters K F t i) (length-append B.regs (K.streams s ∷ [])) (has_registers N i H r)) in
        typed_ops N S i kind.U64 H h f.1 r (reg, ((wi, (refl, reg)), t))
    typed_stmt N count n S (ReadStore s m i) out again B u h f r t =
        let p = λ (next : ℕ). StoreAt m (residual i (length B.regs + 1)) (Converted (K.streams s) (K.memories m) (Reg (length B.regs))) next in
        let H = emit_held N (K.streams s) (λ t next. ReadAt s (Some t) next) (emit N p B) in
        let g = grows_ops K N i H in
        let reg = new_register B.regs F (K.streams s) (front_trans H.regs (operations K N i H).regs F g.front r) in
        let wi = typed_residual S i kind.U64 (length B.regs + 1) h f (subst (λ t. HasRegisters K F t i) (length-append B.regs (K.streams s ∷ [])) (has_registers N i H r)) in
        typed_ops N S i kind.U64 H h f r (reg, ((wi, (refl, reg)), t))
    typed_stmt N count n S (Write s e) out again B u h f r t = typed_one N S e (K.streams s) (λ next. WriteAt s (residual e (length B.regs)) next) B h f r (λ x. x) t
    typed_stmt N count n S (Open s) out again B u h f r t = (tt, t)
    typed_stmt N count n S (Close s) out again B u h f r t = (tt, t)
    typed_stmt N count n S (Discard e) out again B u h f r t = typed_alone N S e h.0 B h.1 f r t
    typed_stmt N count n S (Clear a) out again B u h f r t = (u, t)
    typed_stmt N count n S (If' e p left q right) out again B u h f r t =
        let R = block_code K N count right out again B in
        let L = block_code K N count left out again (going_to B.entry R) in
        let gt = grows_test K N e R.entry L in
        let gl = grows_block K N count left out again (going_to B.entry R) in
        let rl = front_trans L.regs (test_code K N e R.entry L).regs F gt.front r in
        let rr = front_trans R.regs L.regs F gl.front rl in
        typed_test N S e R.entry L h.0 f.0 r (typed_block N count n S left out again (going_to B.entry R) u h.1 f.1 rl (typed_block N count n S right out again B u h.2 f.2 rr t))
    typed_stmt N count n S (Loop' e p body q step) out again B u h f r t =
        let head = N - (length B.places + (size_of_block step + size_of_block body + (1 + operation_count e))) in
        let Z = block_code K N count step B.entry head (going_to head B) in
        let L = block_code K N count body B.entry Z.entry Z in
        let gt = grows_test K N e B.entry L in
        let gl = grows_block K N count body B.entry Z.entry Z in
        let rl = front_trans L.regs (test_code K N e B.entry L).regs F gt.front r in
        let rz = front_trans Z.regs L.regs F gl.front rl in
        typed_test N S e B.entry L h.0 f.0 r (typed_block N count n S body B.entry Z.entry Z u h.1 f.1 rl (typed_block N count n S step B.entry head (going_to head B) u h.2 f.2 rz t))
    typed_stmt N count n S Break out again B u h f r t = t
    typed_stmt N count n S Continue out again B u h f r t = t

    typed_block : {m : _} → (N count n : ℕ) (S : List ℕ) (b : Row_of-Stmt m) (out again : ℕ) (B : Emitted) → slice_index_or F count kind.U64 ≡ kind.U32 → AreTyped K b → FitsBlock c n S b → IsFront (block_code K N count b out again B).regs F → Typed B → Typed (block_code K N count b out again B)
    typed_block N count n S end_of-Stmt out again B u h f r t = t
    typed_block N count n S (more_of-Stmt s rest) out again B u h f r t =
        let C = block_code K N count rest out again B in
        let g = grows_stmt K N count s out again C in
        typed_stmt N count n S s out again C u h.0 f.0 r (typed_block N count n (cleared_by s S) rest out again B u h.1 f.1 (front_trans C.regs (stmt_code K N count s out again C).regs F g.front r) t)

  pub typed_list : (N count n : ℕ) (S : List ℕ) (l : List Stmt) (out again : ℕ) (B : Emitted) → slice_index_or F count kind.U64 ≡ kind.U32 → IsTypedCode K l → FitsCode c n S l → IsFront (list_code K N count l out again B).regs F → Typed B → Typed (list_code K N count l out again B)
  typed_list N count n S [] out again B u h f r t = t
  typed_list N count n S (s ∷ rest) out again B u h f r t =
      let C = list_code K N count rest out again B in
      let g = grows_stmt K N count s out again C in
      typed_stmt N count n S s out again C u h.0 f.1 r (typed_list N count n (cleared_by s S) rest out again B u h.1 f.2 (front_trans C.regs (stmt_code K N count s out again C).regs F g.front r) t)
