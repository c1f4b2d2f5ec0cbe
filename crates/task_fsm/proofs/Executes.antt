-- The places of a statement make its ticks.
use Rattle.std.proofs.Common.{◌≡◌, ℕ, zero, suc, ◌+◌, ◌-◌, ◌<◌, ◌≤◌, inl, inr, List, [], ◌∷◌, length, get_or, Some, None, refl, sym, ap, ◌∙◌, subst, ⊎_elim, arith, length-set, length-append}
use Rattle.std.specs.Prelude.{true, false, slice_get, slice_index_or, slice_set, replicate}
use Rattle.std.proofs.lemmas.Bool.{cases_eq, cases_lt, lt-ltb, le-ltb}
use Rattle.std.proofs.lemmas.List.{get_or-set_same, get_or-set_other, set_past, set-set, set-get_or, length-replicate, get_or-replicate}
use Rattle.std.proofs.lemmas.Grind.{same_number_lists}
use Rattle.tapa_base.specs.declared.token.Token.TheVariants.{Datum}
use Rattle.tapa_base.specs.declared.kind.Kind.{Kind}
use Rattle.tapa_syntax.specs.declared.program.Expr.{Expr}
use Rattle.tapa_syntax.specs.declared.program.Expr.TheVariants.{Lit, Var, Cell', Read, Peek, Eot, Load' as LoadCell, Conv', Apply', Flip', Not', And', Or', Choose'}
use Rattle.tapa_syntax.specs.declared.program.Stmt.{Stmt, Row_of-Stmt, end_of-Stmt, more_of-Stmt}
use Rattle.tapa_syntax.specs.declared.program.Stmt.TheVariants.{Set, SetCell, SetCellBy, Store as StoreCell, StoreBy, ReadVar, ReadCell, ReadStore, Write, Open as OpenIt, Close, Discard, Clear, If', Loop', Break, Continue}
use Rattle.kahn_model.specs.declared.tick.Action.TheVariants.{Local, Put, Load, Store}
use Rattle.kahn_model.specs.declared.tick.StreamOperation.TheVariants.{Read as ByRead}
use Rattle.kahn_model.specs.Behavior.{Behavior, Act, Await}
use Rattle.kahn_model.specs.Trace.{State, at_zero, cell, with_cell, cells_of, cleared, set_var, set_cell, store_cell, expr, locals, turns, stmt, block}
use Rattle.tapa_syntax.specs.LeafKinds.{Kinds}
use Rattle.tapa_base.specs.Kinds.{converted}
use Rattle.tapa_base.specs.Operators.{applied}
use Rattle.task_fsm.specs.Follows.{Follows}
use Rattle.task_fsm.specs.Machine.{Expression, Reg, CellOf, Converted, StateForm, SetAt, CellAt, TestAt, ReadAt, WriteAt, PeekAt, EotAt, OpenAt, CloseAt, LoadAt, StoreAt, ClearAt}
use Rattle.task_fsm.specs.Run.{value, Performs, is_last, clear_step, also_if_last, step, ReadsOnly}
use Rattle.tapa_syntax.specs.ArrayUse.{In, FitsExpr, FitsStmt, FitsBlock, cleared_by}
use Rattle.task_fsm.specs.Code.{Emitted, emit, emit_held, going_to, residual, operations, discarded, old_with, test_code, stmt_code, block_code}
use Rattle.tapa_syntax.specs.TickPlaces.{operation_count, size_of_block}
use Rattle.task_fsm.proofs.Grows.{IsTail, tail_trans, grows_hold, grows_ops, grows_test, grows_stmt, grows_block, regs_ops, first_test, stands}
use Rattle.task_fsm.proofs.Simulates.{two, Sub, Apart, apart_set, Holds, holds_apart, no_trap, no_trap_ops, uses_left, value_stays, follows_two, follows_ask, computes}

pub holds_set : (c size n : ℕ) (σ τ : State) (x v : ℕ) → c < size → x < c → Holds c size n σ τ → Holds c size n (set_var σ x v) (set_var τ x v)
holds_set c size n σ τ x v le lx h =
    let room = h.room in
    let long = h.long in
    record {
      same = λ y ly.
          ⊎_elim
          (λ (e : y ≡ x). subst (λ z. get_or (slice_set τ.vars x v) z 0 ≡ get_or (slice_set σ.vars x v) z 0) (sym e)
          (get_or-set_same τ.vars x v 0 (omega arith) ∙ sym (get_or-set_same σ.vars x v 0 (omega arith))))
          (λ (d : y ≡ x → ⊥). get_or-set_other τ.vars x y v 0 d ∙ h.same y ly ∙ sym (get_or-set_other σ.vars x y v 0 d))
          (cases_eq y x);
      counter = get_or-set_other τ.vars x c v 0 (λ e. omega arith) ∙ h.counter;
      long = length-set σ.vars x v ∙ h.long;
      room = length-set τ.vars x v ∙ h.room;
      arrays = h.arrays;
      cells = h.cells;
      many = h.many;
      full = h.full;
    }

-- an array keeps its number of cells where a row of the same length takes its place
cells_kept : (rows : List (List ℕ)) (a b : ℕ) (row : List ℕ) → length row ≡ length (slice_index_or rows a []) → length (slice_index_or (slice_set rows a row) b []) ≡ length (slice_index_or rows b [])
cells_kept rows a b row l =
    ⊎_elim
    (λ (e : b ≡ a).
    ⊎_elim
    (λ (w : a < length rows). subst (λ k. length (slice_index_or (slice_set rows a row) k []) ≡ length (slice_index_or rows k [])) (sym e) (ap length (get_or-set_same rows a row [] w) ∙ l))
    (λ (w : length rows ≤ a). subst (λ k. length (slice_index_or (slice_set rows a row) k []) ≡ length (slice_index_or rows k [])) (sym e)
    (ap (λ (z : List (List ℕ)). length (slice_index_or z a [])) (set_past rows a row w)))
    (cases_lt a (length rows)))
    (λ (d : b ≡ a → ⊥). ap length (get_or-set_other rows a b row [] d))
    (cases_eq b a)

pub holds_cell : (c size n : ℕ) (σ τ : State) (a j v : ℕ) → Holds c size n σ τ → Holds c size n (set_cell σ a j v) (set_cell τ a j v)
holds_cell c size n σ τ a j v h = record {
  same = h.same;
  counter = h.counter;
  long = h.long;
  room = h.room;
  arrays = ap (λ rows. with_cell rows a j v) h.arrays;
  cells = h.cells;
  many = length-set σ.arrays a (slice_set (slice_index_or σ.arrays a []) j v) ∙ h.many;
  full = λ b lb.
      let f = h.full b lb in
      let e = cells_kept σ.arrays a b (slice_set (slice_index_or σ.arrays a []) j v) (length-set (slice_index_or σ.arrays a []) j v) in
      omega arith;
}

pub holds_store : (c size n : ℕ) (σ τ : State) (m j v : ℕ) → Holds c size n σ τ → Holds c size n (store_cell σ m j v) (store_cell τ m j v)
holds_store c size n σ τ m j v h = record {
  same = h.same;
  counter = h.counter;
  long = h.long;
  room = h.room;
  arrays = h.arrays;
  cells = ap (λ rows. with_cell rows m j v) h.cells;
  many = h.many;
  full = h.full;
}

-- while an array is cleared: i cells are 0
record Clearing (c size n a i : ℕ) (σ τ : State) : Type 0 where
  same : (x : ℕ) → x < c → get_or τ.vars x 0 ≡ get_or σ.vars x 0
  counter : get_or τ.vars c 0 ≡ i
  long : length σ.vars ≡ c
  room : length τ.vars ≡ size
  row : List ℕ
  arrays : τ.arrays ≡ slice_set σ.arrays a row
  zeros : (j : ℕ) → j < i → get_or row j 0 ≡ 0
  cells_in : length row ≡ cells_of σ a
  cells : τ.cells ≡ σ.cells

begins : (c size n a : ℕ) (σ τ : State) → Holds c size n σ τ → Clearing c size n a 0 σ τ
begins c size n a σ τ h = record {
  same = h.same;
  counter = h.counter;
  long = h.long;
  room = h.room;
  row = slice_index_or σ.arrays a [];
  arrays = h.arrays ∙ sym (set-get_or σ.arrays a []);
  zeros = λ j l. omega arith;
  cells_in = refl;
  cells = h.cells;
}

-- one more cell
clears_one : (c size n a i v : ℕ) (σ τ : State) → c < size → a < length σ.arrays → i < cells_of σ a → Clearing c size n a i σ τ → Clearing c size n a (i + 1) σ (set_var (set_cell τ a i 0) c (i + 1))
clears_one c size n a i v σ τ lc la li h =
    let row = h.row in
    let len = h.cells_in in
    let room = h.room in
    record {
      same = λ x lx. get_or-set_other τ.vars c x (i + 1) 0 (λ e. omega arith) ∙ h.same x lx;
      counter = get_or-set_same τ.vars c (i + 1) 0 (omega arith);
      long = h.long;
      room = length-set τ.vars c (i + 1) ∙ h.room;
      row = slice_set h.row i 0;
      arrays =
          ap (λ rows. with_cell rows a i 0) h.arrays
          ∙ ap (λ r. slice_set (slice_set σ.arrays a row) a (slice_set r i 0)) (get_or-set_same σ.arrays a row [] la)
          ∙ set-set σ.arrays a row (slice_set row i 0);
      zeros = λ j l.
          ⊎_elim
          (λ (e : j ≡ i). subst (λ k. get_or (slice_set row i 0) k 0 ≡ 0) (sym e) (get_or-set_same row i 0 0 (omega arith)))
          (λ (d : j ≡ i → ⊥). get_or-set_other row i j 0 0 d ∙ h.zeros j (omega arith))
          (cases_eq j i);
      cells_in = length-set row i 0 ∙ h.cells_in;
      cells = h.cells;
    }

-- the last cell, after which the counter is 0 again
ends_clear : (c size n a i : ℕ) (σ τ : State) → c < size → i + 1 ≡ cells_of σ a → a < length σ.arrays → length σ.arrays ≡ n → ((b : ℕ) → b < n → 1 ≤ cells_of σ b) → Clearing c size n a i σ τ → Holds c size n (cleared σ a) (set_var (set_cell τ a i 0) c 0)
ends_clear c size n a i σ τ lc last la many full h =
    let g = clears_one c size n a i 0 σ τ lc la (omega arith) h in
    let len = g.cells_in in
    let room = h.room in
    let all : g.row ≡ replicate (cells_of σ a) 0 =
    same_number_lists g.row (replicate (cells_of σ a) 0) (len ∙ sym (length-replicate (cells_of σ a) 0))
    (λ k lk. g.zeros k (omega arith) ∙ sym (get_or-replicate (cells_of σ a) k 0 0 (omega arith))) in
    record {
      same = λ x lx. get_or-set_other τ.vars c x 0 0 (λ e. omega arith) ∙ h.same x lx;
      counter = get_or-set_same τ.vars c 0 0 (omega arith);
      long = h.long;
      room = length-set τ.vars c 0 ∙ h.room;
      arrays = g.arrays ∙ ap (λ r. slice_set σ.arrays a r) all;
      cells = h.cells;
      many = length-set σ.arrays a (replicate (cells_of σ a) 0) ∙ many;
      full = λ b lb.
          let f = full b lb in
          let e = cells_kept σ.arrays a b (replicate (cells_of σ a) 0) (length-replicate (cells_of σ a) 0) in
          omega arith;
    }

zero_pos : 1 ≤ 0 → ⊥
zero_pos l = omega arith

pub sub_more : (S : List ℕ) (s : Stmt) → Sub S (cleared_by s S)
sub_more S (Clear a) = λ b h. inr h
sub_more S _ = λ b h. h

module _ (K : Kinds) (P : List StateForm) (c size n : ℕ) where
  abbrev pub Goes : List ℕ → ℕ → (State → Behavior) → Type 0
  Goes S pc go = (σ τ : State) (T : List ℕ) → Sub S T → Holds c size n σ τ → Follows P T (go σ) pc τ

  pub goes_more : (S S' : List ℕ) (pc : ℕ) (go : State → Behavior) → Sub S S' → Goes S pc go → Goes S' pc go
  goes_more S S' pc go sub g = λ σ τ T s h. g σ τ T (λ a i. s a (sub a i)) h

  at_one : (e : Expr) (p : ℕ → StateForm) (B : Emitted) → IsTail (operations K (length P) e (emit (length P) p B)).places P → slice_get P (length P - (length B.places + 1)) ≡ Some (p B.entry)
  at_one e p B tail =
      let D = emit (length P) p B in
      let g = grows_ops K (length P) e D in
      stands (p B.entry) B.places P (tail_trans D.places (operations K (length P) e D).places P g.tail tail)

  tail_one : (e : Expr) (B : Emitted) → IsTail (operations K (length P) e B).places P → IsTail B.places P
  tail_one e B tail = let g = grows_ops K (length P) e B in tail_trans B.places (operations K (length P) e B).places P g.tail tail

  tail_hold : (kind : Kind) (p : ℕ → ℕ → StateForm) (B : Emitted) → IsTail (emit_held (length P) kind p B).places P → IsTail B.places P
  tail_hold kind p B tail = let g = grows_hold (length P) kind p B in tail_trans B.places (emit_held (length P) kind p B).places P g.tail tail

  f_set : (S : List ℕ) (x : ℕ) (e : Expr) (B : Emitted) → IsTail (operations K (length P) e (emit (length P) (λ next. SetAt x (residual e (length B.regs)) next) B)).places P → length (operations K (length P) e (emit (length P) (λ next. SetAt x (residual e (length B.regs)) next) B)).regs ≤ size → c < length B.regs → x < c → FitsExpr c S e → (go : State → Behavior) → Goes S B.entry go → Goes S (operations K (length P) e (emit (length P) (λ next. SetAt x (residual e (length B.regs)) next) B)).entry (λ σ. expr e σ (λ v. Act Local (go (set_var σ x v))))
  f_set S x e B tail room lt lx f go hg σ τ T sub h =
      let t = length B.regs in
      let p = λ (next : ℕ). SetAt x (residual e t) next in
      let D = emit (length P) p B in
      let r = regs_ops K (length P) e D in
      computes K P c size n e S T D σ τ lt tail room f sub h (λ v. Act Local (go (set_var σ x v)))
      (λ v τ' q w. (
        p B.entry,
        B.entry,
        set_var τ' x v,
        at_one e p B tail,
        ap (λ y. Performs Local B.entry (set_var τ' x y)) w,
        uses_left c S T e t sub f,
        hg (set_var σ x v) (set_var τ' x v) T sub (holds_set c size n σ τ' x v (omega arith) lx (holds_apart c size n t (operation_count e) σ τ τ' lt h q)),
      ))

  f_write : (S : List ℕ) (s : ℕ) (e : Expr) (B : Emitted) → IsTail (operations K (length P) e (emit (length P) (λ next. WriteAt s (residual e (length B.regs)) next) B)).places P → length (operations K (length P) e (emit (length P) (λ next. WriteAt s (residual e (length B.regs)) next) B)).regs ≤ size → c < length B.regs → FitsExpr c S e → (go : State → Behavior) → Goes S B.entry go → Goes S (operations K (length P) e (emit (length P) (λ next. WriteAt s (residual e (length B.regs)) next) B)).entry (λ σ. expr e σ (λ v. Act (Put s (Datum v)) (go σ)))
  f_write S s e B tail room lt f go hg σ τ T sub h =
      let t = length B.regs in
      let p = λ (next : ℕ). WriteAt s (residual e t) next in
      computes K P c size n e S T (emit (length P) p B) σ τ lt tail room f sub h (λ v. Act (Put s (Datum v)) (go σ))
      (λ v τ' q w. (
        p B.entry,
        B.entry,
        τ',
        at_one e p B tail,
        ap (λ y. Performs (Put s (Datum y)) B.entry τ') w,
        uses_left c S T e t sub f,
        hg σ τ' T sub (holds_apart c size n t (operation_count e) σ τ τ' lt h q),
      ))

  -- a test, after whose operations one of two places comes
  f_test : (S T : List ℕ) (e : Expr) (other : ℕ) (B : Emitted) (σ τ : State) (R L : Behavior) → IsTail (test_code K (length P) e other B).places P → length (test_code K (length P) e other B).regs ≤ size → c < length B.regs → FitsExpr c S e → Sub S T → Holds c size n σ τ → ((τ' : State) → Holds c size n σ τ' → Follows P T R other τ') → ((τ' : State) → Holds c size n σ τ' → Follows P T L B.entry τ') → Follows P T (expr e σ (λ v. Act Local (at_zero v R L))) (test_code K (length P) e other B).entry τ
  f_test S T e other B σ τ R L tail room lt f sub h hr hl =
      let t = length B.regs in
      let p = λ (next : ℕ). TestAt (residual e t) next other in
      let at = at_one e p B tail in
      let uses = uses_left c S T e t sub f in
      let by : (v : ℕ) (τ' : State) → Holds c size n σ τ' → value (residual e t) τ' ≡ v → Follows P T (Act Local (at_zero v R L)) (length P - (length B.places + 1)) τ' =
      λ v τ' h' w.
      let pick : (v : ℕ) → value (residual e t) τ' ≡ v → Follows P T (Act Local (at_zero v R L)) (length P - (length B.places + 1)) τ' =
      λ u. elim u as (λ u. value (residual e t) τ' ≡ u → Follows P T (Act Local (at_zero u R L)) (length P - (length B.places + 1)) τ') [
        | zero ↦ λ w. (p B.entry, other, τ', at, ap (λ y. Performs Local (at_zero y other B.entry) τ') w, uses, hr τ' h')
        | suc m ↦ λ w. (p B.entry, B.entry, τ', at, ap (λ y. Performs Local (at_zero y other B.entry) τ') w, uses, hl τ' h')
      ] in
      pick v w in
      computes K P c size n e S T (emit (length P) p B) σ τ lt tail room f sub h (λ v. Act Local (at_zero v R L))
      (λ v τ' q w. by v τ' (holds_apart c size n t (operation_count e) σ τ τ' lt h q) w)

  -- a cell of an array gets a value that is computed from two
  f_cell : (S : List ℕ) (a : ℕ) (i e : Expr) (V : Expression) (w : State → ℕ → ℕ → ℕ) (B : Emitted) → IsTail (operations K (length P) e (operations K (length P) i (emit (length P) (λ next. CellAt a (residual i (length B.regs)) V next) B))).places P → length (operations K (length P) e (operations K (length P) i (emit (length P) (λ next. CellAt a (residual i (length B.regs)) V next) B))).regs ≤ size → c < length B.regs → In a S → FitsExpr c S i → FitsExpr c S e → ((T : List ℕ) → Sub S T → ReadsOnly T V) → ((σ τ' : State) (v j : ℕ) → Holds c size n σ τ' → value (residual e (length B.regs + operation_count i)) τ' ≡ v → value (residual i (length B.regs)) τ' ≡ j → value V τ' ≡ w σ v j) → (go : State → Behavior) → Goes S B.entry go → Goes S (operations K (length P) e (operations K (length P) i (emit (length P) (λ next. CellAt a (residual i (length B.regs)) V next) B))).entry (λ σ. expr e σ (λ v. expr i σ (λ j. Act Local (go (set_cell σ a j (w σ v j))))))
  f_cell S a i e V w B tail room lt ina fi fe uses is go hg σ τ T sub h =
      let t = length B.regs in
      let p = λ (next : ℕ). CellAt a (residual i t) V next in
      let D = emit (length P) p B in
      let at = at_one i p B (tail_one e (operations K (length P) i D) tail) in
      follows_two K P c size n e i (computes K P c size n e) (computes K P c size n i) S T D σ τ lt tail room fe fi sub h (λ v j. Act Local (go (set_cell σ a j (w σ v j))))
      (λ v j τ' q wv wj.
      let h' = holds_apart c size n t (operation_count i + operation_count e) σ τ τ' lt h q in (
        p B.entry,
        B.entry,
        set_cell τ' a j (w σ v j),
        at,
        two (λ x y. Performs Local B.entry (set_cell τ' a x y)) (value (residual i t) τ') j (value V τ') (w σ v j) wj (is σ τ' v j h' wv wj),
        (sub a ina, uses_left c S T i t sub fi, uses T sub),
        hg (set_cell σ a j (w σ v j)) (set_cell τ' a j (w σ v j)) T sub (holds_cell c size n σ τ' a j (w σ v j) h'),
      ))

  f_store : (S : List ℕ) (m : ℕ) (i e : Expr) (B : Emitted) → IsTail (operations K (length P) e (operations K (length P) i (emit (length P) (λ next. StoreAt m (residual i (length B.regs)) (residual e (length B.regs + operation_count i)) next) B))).places P → length (operations K (length P) e (operations K (length P) i (emit (length P) (λ next. StoreAt m (residual i (length B.regs)) (residual e (length B.regs + operation_count i)) next) B))).regs ≤ size → c < length B.regs → FitsExpr c S i → FitsExpr c S e → (go : State → Behavior) → Goes S B.entry go → Goes S (operations K (length P) e (operations K (length P) i (emit (length P) (λ next. StoreAt m (residual i (length B.regs)) (residual e (length B.regs + operation_count i)) next) B))).entry (λ σ. expr e σ (λ v. expr i σ (λ j. Act (Store m j v) (go (store_cell σ m j v)))))
  f_store S m i e B tail room lt fi fe go hg σ τ T sub h =
      let t = length B.regs in
      let p = λ (next : ℕ). StoreAt m (residual i t) (residual e (t + operation_count i)) next in
      let D = emit (length P) p B in
      let at = at_one i p B (tail_one e (operations K (length P) i D) tail) in
      follows_two K P c size n e i (computes K P c size n e) (computes K P c size n i) S T D σ τ lt tail room fe fi sub h (λ v j. Act (Store m j v) (go (store_cell σ m j v)))
      (λ v j τ' q wv wj.
      let h' = holds_apart c size n t (operation_count i + operation_count e) σ τ τ' lt h q in (
        p B.entry,
        B.entry,
        store_cell τ' m j v,
        at,
        two (λ x y. Performs (Store m x y) B.entry (store_cell τ' m x y)) (value (residual i t) τ') j (value (residual e (t + operation_count i)) τ') v wj wv,
        (uses_left c S T i t sub fi, uses_left c S T e (t + operation_count i) sub fe),
        hg (store_cell σ m j v) (store_cell τ' m j v) T sub (holds_store c size n σ τ' m j v h'),
      ))

  -- a Load and a Store of one cell
  f_store_by : (S : List ℕ) (m : ℕ) (i e : Expr) (kind : Kind) (V : Expression) (w : ℕ → ℕ → ℕ) (B : Emitted) → IsTail (operations K (length P) e (operations K (length P) i (emit_held (length P) kind (λ t next. LoadAt m (residual i (t + 1)) (Some t) next) (emit (length P) (λ next. StoreAt m (residual i (length B.regs + 1)) V next) B)))).places P → length (operations K (length P) e (operations K (length P) i (emit_held (length P) kind (λ t next. LoadAt m (residual i (t + 1)) (Some t) next) (emit (length P) (λ next. StoreAt m (residual i (length B.regs + 1)) V next) B)))).regs ≤ size → c < length B.regs → FitsExpr c S i → FitsExpr c S e → ((T : List ℕ) → Sub S T → ReadsOnly T V) → ((τ' : State) (v d : ℕ) → value (residual e (length B.regs + 1 + operation_count i)) τ' ≡ v → get_or τ'.vars (length B.regs) 0 ≡ d → value V τ' ≡ w d v) → (go : State → Behavior) → Goes S B.entry go → Goes S (operations K (length P) e (operations K (length P) i (emit_held (length P) kind (λ t next. LoadAt m (residual i (t + 1)) (Some t) next) (emit (length P) (λ next. StoreAt m (residual i (length B.regs + 1)) V next) B)))).entry (λ σ. expr e σ (λ v. expr i σ (λ j. Act (Load m j) (Act (Store m j (w (cell σ.cells m j) v)) (go (store_cell σ m j (w (cell σ.cells m j) v)))))))
  f_store_by S m i e kind V w B tail room lt fi fe uses is go hg σ τ T sub h =
      let N = length P in
      let t = length B.regs in
      let p = λ (next : ℕ). StoreAt m (residual i (t + 1)) V next in
      let q = λ (t next : ℕ). LoadAt m (residual i (t + 1)) (Some t) next in
      let D = emit N p B in
      let H = emit_held N kind q D in
      let eh : length H.regs ≡ t + 1 = omega (arith, length-append B.regs (kind ∷ [])) in
      let tail1 = tail_one i H (tail_one e (operations K N i H) tail) in
      let at1 = stands (q t D.entry) D.places P tail1 in
      let at2 = stands (p B.entry) B.places P (tail_hold kind q D tail1) in
      let ri = regs_ops K N i H in
      let re = regs_ops K N e (operations K N i H) in
      follows_two K P c size n e i (computes K P c size n e) (computes K P c size n i) S T H σ τ (omega arith) tail room fe fi sub h (λ v j. Act (Load m j) (Act (Store m j (w (cell σ.cells m j) v)) (go (store_cell σ m j (w (cell σ.cells m j) v)))))
      (λ v j τ' ap1 wv1 wj1.
      let a1 = subst (λ k. Apart k (operation_count i + operation_count e) τ τ') eh ap1 in
      let wv = subst (λ k. value (residual e (k + operation_count i)) τ' ≡ v) eh wv1 in
      let wj = subst (λ k. value (residual i k) τ' ≡ j) eh wj1 in
      let h' = holds_apart c size n (t + 1) (operation_count i + operation_count e) σ τ τ' (omega arith) h a1 in
      let d = cell σ.cells m j in
      let ed : cell τ'.cells m (value (residual i (t + 1)) τ') ≡ d = two (λ rows k. cell rows m k) τ'.cells σ.cells (value (residual i (t + 1)) τ') j h'.cells wj in
      let τ1 = set_var τ' t d in
      let a2 = apart_set t d τ' in
      let h1 = holds_apart c size n t 1 σ τ' τ1 lt h' a2 in
      let hr = h'.room in
      let dv = get_or-set_same τ'.vars t d 0 (omega arith) in
      let xv = is τ1 v d (value_stays c S e (t + 1 + operation_count i) t 1 τ' τ1 lt (omega arith) fe a2 ∙ wv) dv in
      let xj = value_stays c S i (t + 1) t 1 τ' τ1 lt (omega arith) fi a2 ∙ wj in (
        q t D.entry,
        D.entry,
        τ1,
        at1,
        two (λ x y. Performs (Load m x) D.entry (set_var τ' t y)) (value (residual i (t + 1)) τ') j (cell τ'.cells m (value (residual i (t + 1)) τ')) d wj ed,
        uses_left c S T i (t + 1) sub fi,
        (
          p B.entry,
          B.entry,
          store_cell τ1 m j (w d v),
          at2,
          two (λ x y. Performs (Store m x y) B.entry (store_cell τ1 m x y)) (value (residual i (t + 1)) τ1) j (value V τ1) (w d v) xj xv,
          (uses_left c S T i (t + 1) sub fi, uses T sub),
          hg (store_cell σ m j (w d v)) (store_cell τ1 m j (w d v)) T sub (holds_store c size n σ τ1 m j (w d v) h1),
        ),
      ))

  -- a token into a variable
  f_read_var : (S : List ℕ) (s x : ℕ) (B : Emitted) → IsTail (stmt_code K (length P) c (ReadVar s x) 0 0 B).places P → length (stmt_code K (length P) c (ReadVar s x) 0 0 B).regs ≤ size → c < length B.regs → x < c → (go : State → Behavior) → Goes S B.entry go → Goes S (stmt_code K (length P) c (ReadVar s x) 0 0 B).entry (λ σ. Await s ByRead (λ v. Act Local (go (set_var σ x (converted (K.streams s) (K.vars x) v)))))
  f_read_var S s x B tail room lt lx go hg σ τ T sub h =
      let N = length P in
      let t = length B.regs in
      let C = λ (v : ℕ). converted (K.streams s) (K.vars x) v in
      let p = λ (next : ℕ). SetAt x (Converted (K.streams s) (K.vars x) (Reg t)) next in
      let D = emit N p B in
      let q = λ (t next : ℕ). ReadAt s (Some t) next in
      let at1 = stands (q t D.entry) D.places P tail in
      let at2 = stands (p B.entry) B.places P (tail_hold (K.streams s) q D tail) in
      let l = length-append B.regs (K.streams s ∷ []) in
      follows_ask K P c size n s ByRead T D (q t D.entry) (N - (length D.places + 1)) τ (omega arith) h.room at1 refl refl tt (λ v. Act Local (go (set_var σ x (C v))))
      (λ v τ1 a1 g.
      let h1 = holds_apart c size n t 1 σ τ τ1 lt h a1 in (
        p B.entry,
        B.entry,
        set_var τ1 x (C v),
        at2,
        ap (λ y. Performs Local B.entry (set_var τ1 x (C y))) g,
        tt,
        hg (set_var σ x (C v)) (set_var τ1 x (C v)) T sub (holds_set c size n σ τ1 x (C v) (omega arith) lx h1),
      ))

  -- a token into a cell of an array
  f_read_cell : (S : List ℕ) (s a : ℕ) (i : Expr) (B : Emitted) → IsTail (stmt_code K (length P) c (ReadCell s a i) 0 0 B).places P → length (stmt_code K (length P) c (ReadCell s a i) 0 0 B).regs ≤ size → c < length B.regs → In a S → FitsExpr c S i → (go : State → Behavior) → Goes S B.entry go → Goes S (stmt_code K (length P) c (ReadCell s a i) 0 0 B).entry (λ σ. expr i σ (λ j. Await s ByRead (λ v. Act Local (go (set_cell σ a j (converted (K.streams s) (K.arrays a) v))))))
  f_read_cell S s a i B tail room lt ina fi go hg σ τ T sub h =
      let N = length P in
      let t = length B.regs in
      let C = λ (v : ℕ). converted (K.streams s) (K.arrays a) v in
      let p = λ (next : ℕ). CellAt a (residual i (t + 1)) (Converted (K.streams s) (K.arrays a) (Reg t)) next in
      let D = emit N p B in
      let q = λ (t next : ℕ). ReadAt s (Some t) next in
      let H = emit_held N (K.streams s) q D in
      let tail1 = tail_one i H tail in
      let at1 = stands (q t D.entry) D.places P tail1 in
      let at2 = stands (p B.entry) B.places P (tail_hold (K.streams s) q D tail1) in
      let eh : length H.regs ≡ t + 1 = omega (arith, length-append B.regs (K.streams s ∷ [])) in
      let ri = regs_ops K N i H in
      computes K P c size n i S T H σ τ (omega arith) tail room fi sub h (λ j. Await s ByRead (λ v. Act Local (go (set_cell σ a j (C v)))))
      (λ j τ' ap1 wj1.
      let a1 = subst (λ k. Apart k (operation_count i) τ τ') eh ap1 in
      let wj = subst (λ k. value (residual i k) τ' ≡ j) eh wj1 in
      let h' = holds_apart c size n (t + 1) (operation_count i) σ τ τ' (omega arith) h a1 in
      follows_ask K P c size n s ByRead T D (q t D.entry) (N - (length D.places + 1)) τ' (omega arith) h'.room at1 refl refl tt (λ v. Act Local (go (set_cell σ a j (C v))))
      (λ v τ1 a2 g.
      let h1 = holds_apart c size n t 1 σ τ' τ1 lt h' a2 in
      let xj = value_stays c S i (t + 1) t 1 τ' τ1 lt (omega arith) fi a2 ∙ wj in (
        p B.entry,
        B.entry,
        set_cell τ1 a j (C v),
        at2,
        two (λ x y. Performs Local B.entry (set_cell τ1 a x (C y))) (value (residual i (t + 1)) τ1) j (get_or τ1.vars t 0) v xj g,
        (sub a ina, uses_left c S T i (t + 1) sub fi, tt),
        hg (set_cell σ a j (C v)) (set_cell τ1 a j (C v)) T sub (holds_cell c size n σ τ1 a j (C v) h1),
      )))

  -- a token into a cell of a memory
  f_read_store : (S : List ℕ) (s m : ℕ) (i : Expr) (B : Emitted) → IsTail (stmt_code K (length P) c (ReadStore s m i) 0 0 B).places P → length (stmt_code K (length P) c (ReadStore s m i) 0 0 B).regs ≤ size → c < length B.regs → FitsExpr c S i → (go : State → Behavior) → Goes S B.entry go → Goes S (stmt_code K (length P) c (ReadStore s m i) 0 0 B).entry (λ σ. expr i σ (λ j. Await s ByRead (λ v. Act (Store m j (converted (K.streams s) (K.memories m) v)) (go (store_cell σ m j (converted (K.streams s) (K.memories m) v))))))
  f_read_store S s m i B tail room lt fi go hg σ τ T sub h =
      let N = length P in
      let t = length B.regs in
      let C = λ (v : ℕ). converted (K.streams s) (K.memories m) v in
      let p = λ (next : ℕ). StoreAt m (residual i (t + 1)) (Converted (K.streams s) (K.memories m) (Reg t)) next in
      let D = emit N p B in
      let q = λ (t next : ℕ). ReadAt s (Some t) next in
      let H = emit_held N (K.streams s) q D in
      let tail1 = tail_one i H tail in
      let at1 = stands (q t D.entry) D.places P tail1 in
      let at2 = stands (p B.entry) B.places P (tail_hold (K.streams s) q D tail1) in
      let eh : length H.regs ≡ t + 1 = omega (arith, length-append B.regs (K.streams s ∷ [])) in
      let ri = regs_ops K N i H in
      computes K P c size n i S T H σ τ (omega arith) tail room fi sub h (λ j. Await s ByRead (λ v. Act (Store m j (C v)) (go (store_cell σ m j (C v)))))
      (λ j τ' ap1 wj1.
      let a1 = subst (λ k. Apart k (operation_count i) τ τ') eh ap1 in
      let wj = subst (λ k. value (residual i k) τ' ≡ j) eh wj1 in
      let h' = holds_apart c size n (t + 1) (operation_count i) σ τ τ' (omega arith) h a1 in
      follows_ask K P c size n s ByRead T D (q t D.entry) (N - (length D.places + 1)) τ' (omega arith) h'.room at1 refl refl tt (λ v. Act (Store m j (C v)) (go (store_cell σ m j (C v))))
      (λ v τ1 a2 g.
      let h1 = holds_apart c size n t 1 σ τ' τ1 lt h' a2 in
      let xj = value_stays c S i (t + 1) t 1 τ' τ1 lt (omega arith) fi a2 ∙ wj in (
        p B.entry,
        B.entry,
        store_cell τ1 m j (C v),
        at2,
        two (λ x y. Performs (Store m x (C y)) B.entry (store_cell τ1 m x (C y))) (value (residual i (t + 1)) τ1) j (get_or τ1.vars t 0) v xj g,
        (uses_left c S T i (t + 1) sub fi, tt),
        hg (store_cell σ m j (C v)) (store_cell τ1 m j (C v)) T sub (holds_store c size n σ τ1 m j (C v) h1),
      )))

  -- an expression discarded
  f_any : (S : List ℕ) (e : Expr) (B : Emitted) → IsTail (operations K (length P) e B).places P → length (operations K (length P) e B).regs ≤ size → c < length B.regs → FitsExpr c S e → (go : State → Behavior) → Goes S B.entry go → Goes S (operations K (length P) e B).entry (λ σ. expr e σ (λ v. go σ))
  f_any S e B tail room lt f go hg σ τ T sub h =
      computes K P c size n e S T B σ τ lt tail room f sub h (λ v. go σ) (λ v τ' q w. hg σ τ' T sub (holds_apart c size n (length B.regs) (operation_count e) σ τ τ' lt h q))

  f_alone : (S : List ℕ) (e : Expr) (B : Emitted) → IsTail (discarded K (length P) e B).places P → length (discarded K (length P) e B).regs ≤ size → c < length B.regs → FitsExpr c S e → (go : State → Behavior) → Goes S B.entry go → Goes S (discarded K (length P) e B).entry (λ σ. expr e σ (λ v. go σ))
  f_alone S (Read s) B tail room lt f go hg σ τ T sub h = (ReadAt s None B.entry, B.entry, None, stands (ReadAt s None B.entry) B.places P tail, refl, refl, tt, λ v. hg σ τ T sub h)
  f_alone S (Peek s) B tail room lt f go hg σ τ T sub h = (PeekAt s None B.entry, B.entry, None, stands (PeekAt s None B.entry) B.places P tail, refl, refl, tt, λ v. hg σ τ T sub h)
  f_alone S (Eot s) B tail room lt f go hg σ τ T sub h = (EotAt s None B.entry, B.entry, None, stands (EotAt s None B.entry) B.places P tail, refl, refl, tt, λ v. hg σ τ T sub h)
  f_alone S (LoadCell m q e) B tail room lt f go hg σ τ T sub h =
      let t = length B.regs in
      let p = λ (next : ℕ). LoadAt m (residual e t) None next in
      computes K P c size n e S T (emit (length P) p B) σ τ lt tail room f sub h (λ i. Act (Load m i) (go σ))
      (λ i τ' a w. (
        p B.entry,
        B.entry,
        τ',
        at_one e p B tail,
        ap (λ y. Performs (Load m y) B.entry τ') w,
        uses_left c S T e t sub f,
        hg σ τ' T sub (holds_apart c size n t (operation_count e) σ τ τ' lt h a),
      ))
  f_alone S (Lit kind k) B tail room lt f go hg σ τ T sub h = f_any S (Lit kind k) B tail room lt f go hg σ τ T sub h
  f_alone S (Var x) B tail room lt f go hg σ τ T sub h = f_any S (Var x) B tail room lt f go hg σ τ T sub h
  f_alone S (Cell' a p e) B tail room lt f go hg σ τ T sub h = f_any S (Cell' a p e) B tail room lt f go hg σ τ T sub h
  f_alone S (Conv' source target p e) B tail room lt f go hg σ τ T sub h = f_any S (Conv' source target p e) B tail room lt f go hg σ τ T sub h
  f_alone S (Apply' op kind p l q r) B tail room lt f go hg σ τ T sub h = f_any S (Apply' op kind p l q r) B tail room lt f go hg σ τ T sub h
  f_alone S (Flip' kind p e) B tail room lt f go hg σ τ T sub h = f_any S (Flip' kind p e) B tail room lt f go hg σ τ T sub h
  f_alone S (Not' p e) B tail room lt f go hg σ τ T sub h = f_any S (Not' p e) B tail room lt f go hg σ τ T sub h
  f_alone S (And' p l q r) B tail room lt f go hg σ τ T sub h = f_any S (And' p l q r) B tail room lt f go hg σ τ T sub h
  f_alone S (Or' p l q r) B tail room lt f go hg σ τ T sub h = f_any S (Or' p l q r) B tail room lt f go hg σ τ T sub h
  f_alone S (Choose' p e q a r b) B tail room lt f go hg σ τ T sub h = f_any S (Choose' p e q a r b) B tail room lt f go hg σ τ T sub h

  cells_same : (a i : ℕ) (σ τ : State) → a < length σ.arrays → Clearing c size n a i σ τ → cells_of τ a ≡ cells_of σ a
  cells_same a i σ τ la g =
      ap (λ (rows : List (List ℕ)). length (slice_index_or rows a [])) g.arrays ∙ ap length (get_or-set_same σ.arrays a g.row [] la) ∙ g.cells_in

  -- the ticks of a Clear, of which one more than k are left
  clears : (a next : ℕ) (S T : List ℕ) (σ : State) (go : Behavior) (pc : ℕ) → slice_get P pc ≡ Some (ClearAt a c next) → c < size → a < length σ.arrays → ((τ : State) → Holds c size n (cleared σ a) τ → Follows P (a ∷ T) go next τ) → length σ.arrays ≡ n → ((b : ℕ) → b < n → 1 ≤ cells_of σ b) → (k i : ℕ) (τ : State) → i + suc k ≡ cells_of σ a → Clearing c size n a i σ τ → Follows P T (locals (suc k) go) pc τ
  clears a next S T σ go pc at lc la on many full zero i τ e g =
      let es = cells_same a i σ τ la g in
      let ec = g.counter in
      let last : is_last τ a c ≡ false = le-ltb (get_or τ.vars c 0 + 1) (cells_of τ a) (omega arith) in
      let τ' = set_var (set_cell τ a i 0) c 0 in (
        ClearAt a c next,
        next,
        τ',
        at,
        ap (λ f. clear_step f a c pc next τ) last ∙ ap (λ j. Performs Local next (set_var (set_cell τ a j 0) c 0)) ec,
        tt,
        subst (λ X. Follows P X go next τ') (sym (ap (λ f. also_if_last f a T) last)) (on τ' (ends_clear c size n a i σ τ lc (omega arith) la many full g)),
      )
  clears a next S T σ go pc at lc la on many full (suc k) i τ e g =
      let es = cells_same a i σ τ la g in
      let ec = g.counter in
      let last : is_last τ a c ≡ true = lt-ltb (get_or τ.vars c 0 + 1) (cells_of τ a) (omega arith) in
      let τ' = set_var (set_cell τ a i 0) c (i + 1) in (
        ClearAt a c next,
        pc,
        τ',
        at,
        ap (λ f. clear_step f a c pc next τ) last ∙ ap (λ j. Performs Local pc (set_var (set_cell τ a j 0) c (j + 1))) ec,
        tt,
        subst (λ X. Follows P X (locals (suc k) go) pc τ') (sym (ap (λ f. also_if_last f a T) last))
            (clears a next S T σ go pc at lc la on many full k (i + 1) τ' (omega arith) (clears_one c size n a i 0 σ τ lc la (omega arith) g)),
      )

  f_clear : (S : List ℕ) (a : ℕ) (B : Emitted) → IsTail (emit (length P) (λ next. ClearAt a c next) B).places P → c < size → a < n → (go : State → Behavior) → Goes (a ∷ S) B.entry go → Goes S (length P - (length B.places + 1)) (λ σ. locals (cells_of σ a) (go (cleared σ a)))
  f_clear S a B tail lc la go hg σ τ T sub h =
      let at = stands (ClearAt a c B.entry) B.places P tail in
      let many = h.many in
      let by : (m : ℕ) → m ≡ cells_of σ a → 1 ≤ m → Follows P T (locals m (go (cleared σ a))) (length P - (length B.places + 1)) τ =
      λ m. elim m as (λ m. m ≡ cells_of σ a → 1 ≤ m → Follows P T (locals m (go (cleared σ a))) (length P - (length B.places + 1)) τ) [
        | zero ↦ λ e l. absurd (zero_pos l)
        | suc k ↦ λ e l. clears a B.entry S T σ (go (cleared σ a)) (length P - (length B.places + 1)) at lc (omega arith) (λ τ1 h1. hg (cleared σ a) τ1 (a ∷ T) (λ b m. ⊎_elim (λ e. inl e) (λ i. inr (sub b i)) m) h1) many h.full k 0 τ (omega arith) (begins c size n a σ τ h)
      ] in
      by (cells_of σ a) refl (h.full a la)

  -- a loop of at most so many tests, given its body
  f_turns : (S : List ℕ) (e : Expr) (next : ℕ) (L : Emitted) → IsTail (test_code K (length P) e next L).places P → length (test_code K (length P) e next L).regs ≤ size → c < length L.regs → FitsExpr c S e → (inner : State → (State → Behavior) → Behavior) (go : State → Behavior) → Goes S next go → ((x : State → Behavior) → Goes S (test_code K (length P) e next L).entry x → Goes S L.entry (λ σ. inner σ x)) → (m : ℕ) → Goes S (test_code K (length P) e next L).entry (turns m (expr e) inner go)
  f_turns S e next L tail room lt f inner go hg hb zero σ τ T sub h =
      let p = λ (pc : ℕ). TestAt (residual e (length L.regs)) pc next in
      no_trap_ops K P e (emit (length P) p L) tail (no_trap P (length P - (length L.places + 1)) (p L.entry) (at_one e p L tail) tt)
  f_turns S e next L tail room lt f inner go hg hb (suc m) σ τ T sub h =
      f_test S T e next L σ τ (go σ) (inner σ (turns m (expr e) inner go)) tail room lt f sub h
      (λ τ' h'. hg σ τ' T sub h')
      (λ τ' h'. hb (turns m (expr e) inner go) (f_turns S e next L tail room lt f inner go hg hb m) σ τ' T sub h')

  mutual
    pub f_stmt : (fuel : ℕ) (s : Stmt) (S : List ℕ) (out again : ℕ) (B : Emitted) → IsTail (stmt_code K (length P) c s out again B).places P → length (stmt_code K (length P) c s out again B).regs ≤ size → c < length B.regs → FitsStmt c n S s → (go o a : State → Behavior) → Goes (cleared_by s S) B.entry go → Goes S out o → Goes S again a → Goes S (stmt_code K (length P) c s out again B).entry (λ σ. stmt K fuel s σ go o a)
    f_stmt fuel (Set x e) S out again B tail room lt f go o a hg ho ha σ τ T sub h = f_set S x e B tail room lt f.0 f.1 go hg σ τ T sub h
    f_stmt fuel (SetCell r i e) S out again B tail room lt f go o a hg ho ha σ τ T sub h =
        f_cell S r i e (residual e (length B.regs + operation_count i)) (λ σ v j. v) B tail room lt f.0 f.1 f.2 (λ T sub. uses_left c S T e (length B.regs + operation_count i) sub f.2) (λ σ τ' v j h' wv wj. wv) go hg σ τ T sub h
    f_stmt fuel (SetCellBy r i op kind e) S out again B tail room lt f go o a hg ho ha σ τ T sub h =
        f_cell S r i e (old_with op kind (K.arrays r) (CellOf r (residual i (length B.regs))) (residual e (length B.regs + operation_count i))) (λ σ v j. converted kind (K.arrays r) (applied op kind (converted (K.arrays r) kind (cell σ.arrays r j)) v)) B tail room lt f.0 f.1 f.2
        (λ T sub. ((sub r f.0, uses_left c S T i (length B.regs) sub f.1), uses_left c S T e (length B.regs + operation_count i) sub f.2))
        (λ σ τ' v j h' wv wj. two (λ x y. converted kind (K.arrays r) (applied op kind (converted (K.arrays r) kind x) y)) (cell τ'.arrays r (value (residual i (length B.regs)) τ')) (cell σ.arrays r j) (value (residual e (length B.regs + operation_count i)) τ') v
        (two (λ rows k. cell rows r k) τ'.arrays σ.arrays (value (residual i (length B.regs)) τ') j h'.arrays wj) wv) go hg σ τ T sub h
    f_stmt fuel (StoreCell m i e) S out again B tail room lt f go o a hg ho ha σ τ T sub h = f_store S m i e B tail room lt f.0 f.1 go hg σ τ T sub h
    f_stmt fuel (StoreBy m i op kind e) S out again B tail room lt f go o a hg ho ha σ τ T sub h =
        f_store_by S m i e (K.memories m) (old_with op kind (K.memories m) (Reg (length B.regs)) (residual e (length B.regs + 1 + operation_count i))) (λ d v. converted kind (K.memories m) (applied op kind (converted (K.memories m) kind d) v)) B tail room lt f.0 f.1
        (λ T sub. (tt, uses_left c S T e (length B.regs + 1 + operation_count i) sub f.1))
        (λ τ' v d wv wd. two (λ x y. converted kind (K.memories m) (applied op kind (converted (K.memories m) kind x) y)) (get_or τ'.vars (length B.regs) 0) d (value (residual e (length B.regs + 1 + operation_count i)) τ') v wd wv) go hg σ τ T sub h
    f_stmt fuel (ReadVar s x) S out again B tail room lt f go o a hg ho ha σ τ T sub h = f_read_var S s x B tail room lt f go hg σ τ T sub h
    f_stmt fuel (ReadCell s r i) S out again B tail room lt f go o a hg ho ha σ τ T sub h = f_read_cell S s r i B tail room lt f.0 f.1 go hg σ τ T sub h
    f_stmt fuel (ReadStore s m i) S out again B tail room lt f go o a hg ho ha σ τ T sub h = f_read_store S s m i B tail room lt f go hg σ τ T sub h
    f_stmt fuel (Write s e) S out again B tail room lt f go o a hg ho ha σ τ T sub h = f_write S s e B tail room lt f go hg σ τ T sub h
    f_stmt fuel (OpenIt s) S out again B tail room lt f go o a hg ho ha σ τ T sub h =
        (OpenAt s B.entry, B.entry, None, stands (OpenAt s B.entry) B.places P tail, refl, refl, tt, λ v. hg σ τ T sub h)
    f_stmt fuel (Close s) S out again B tail room lt f go o a hg ho ha σ τ T sub h =
        (CloseAt s B.entry, B.entry, τ, stands (CloseAt s B.entry) B.places P tail, refl, tt, hg σ τ T sub h)
    f_stmt fuel (Discard e) S out again B tail room lt f go o a hg ho ha σ τ T sub h = f_alone S e B tail room lt f go hg σ τ T sub h
    f_stmt fuel (Clear r) S out again B tail room lt f go o a hg ho ha σ τ T sub h = f_clear S r B tail (omega arith) f go hg σ τ T sub h
    f_stmt fuel (If' e p left q right) S out again B tail room lt f go o a hg ho ha σ τ T sub h =
        let N = length P in
        let R = block_code K N c right out again B in
        let L0 = going_to B.entry R in
        let L = block_code K N c left out again L0 in
        let gr = grows_block K N c right out again B in
        let gl = grows_block K N c left out again L0 in
        let gt = grows_test K N e R.entry L in
        let r1 = gr.regs in let r2 = gl.regs in let r3 = gt.regs in
        let tail1 = tail_trans L.places (test_code K N e R.entry L).places P gt.tail tail in
        let tail2 = tail_trans R.places L.places P gl.tail tail1 in
        f_test S T e R.entry L σ τ (block K fuel right σ go o a) (block K fuel left σ go o a) tail room (omega arith) f.0 sub h
        (λ τ' h'. f_block fuel right S out again B tail2 (omega arith) lt f.2 go o a hg ho ha σ τ' T sub h')
        (λ τ' h'. f_block fuel left S out again L0 tail1 (omega arith) (omega arith) f.1 go o a hg ho ha σ τ' T sub h')
    f_stmt fuel (Loop' e p body q step) S out again B tail room lt f go o a hg ho ha σ τ T sub h =
        let N = length P in
        let head = N - (length B.places + (size_of_block step + size_of_block body + (1 + operation_count e))) in
        let B0 = going_to head B in
        let St = block_code K N c step B.entry head B0 in
        let L = block_code K N c body B.entry St.entry St in
        let all = test_code K N e B.entry L in
        let gs = grows_block K N c step B.entry head B0 in
        let gl = grows_block K N c body B.entry St.entry St in
        let gt = grows_test K N e B.entry L in
        let r1 = gs.regs in let r2 = gl.regs in let r3 = gt.regs in
        let z1 = gs.size in let z2 = gl.size in let z3 = gt.size in
        let tail1 = tail_trans L.places all.places P gt.tail tail in
        let tail2 = tail_trans St.places L.places P gl.tail tail1 in
        let ez : length all.places ≡ length B.places + (size_of_block step + size_of_block body + (1 + operation_count e)) = omega arith in
        let eh : all.entry ≡ head = (first_test K N e B.entry L).is ∙ ap (λ k. N - k) ez in
        f_turns S e B.entry L tail room (omega arith) f.0 (λ σ' x. block K fuel body σ' (λ σ''. block K fuel step σ'' x go x) go (λ σ''. block K fuel step σ'' x go x)) go hg
        (λ x hx.
        let hh = subst (λ pc. Goes S pc x) eh hx in
        let hs = f_block fuel step S B.entry head B0 tail2 (omega arith) lt f.2 x go x hh hg hh in
        f_block fuel body S B.entry St.entry St tail1 (omega arith) (omega arith) f.1 (λ σ''. block K fuel step σ'' x go x) go (λ σ''. block K fuel step σ'' x go x) hs hg hs)
        fuel σ τ T sub h
    f_stmt fuel Break S out again B tail room lt f go o a hg ho ha σ τ T sub h = ho σ τ T sub h
    f_stmt fuel Continue S out again B tail room lt f go o a hg ho ha σ τ T sub h = ha σ τ T sub h

    pub f_block : {m : _} → (fuel : ℕ) (s : Row_of-Stmt m) (S : List ℕ) (out again : ℕ) (B : Emitted) → IsTail (block_code K (length P) c s out again B).places P → length (block_code K (length P) c s out again B).regs ≤ size → c < length B.regs → FitsBlock c n S s → (go o a : State → Behavior) → Goes S B.entry go → Goes S out o → Goes S again a → Goes S (block_code K (length P) c s out again B).entry (λ σ. block K fuel s σ go o a)
    f_block fuel end_of-Stmt S out again B tail room lt f go o a hg ho ha σ τ T sub h = hg σ τ T sub h
    f_block fuel (more_of-Stmt s rest) S out again B tail room lt f go o a hg ho ha σ τ T sub h =
        let N = length P in
        let C = block_code K N c rest out again B in
        let gr = grows_block K N c rest out again B in
        let gs = grows_stmt K N c s out again C in
        let r1 = gr.regs in let r2 = gs.regs in
        let tail1 = tail_trans C.places (stmt_code K N c s out again C).places P gs.tail tail in
        let S' = cleared_by s S in
        let more = sub_more S s in
        f_stmt fuel s S out again C tail room (omega arith) f.0 (λ σ'. block K fuel rest σ' go o a) o a
        (f_block fuel rest S' out again B tail1 (omega arith) lt f.1 go o a (goes_more S S' B.entry go more hg) (goes_more S S' out o more ho) (goes_more S S' again a more ha)) ho ha σ τ T sub h
