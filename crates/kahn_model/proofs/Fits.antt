-- A leaf that is typed puts tokens of the kinds of its streams and stores values of the kinds of its memories.
use Rattle.std.proofs.Common.{◌≡◌, ℕ, zero, suc, ◌-◌, ◌*◌, ◌^◌, ◌<◌, List, [], ◌∷◌, get_or, replicate, subst, arith}
use Rattle.std.specs.Prelude.{slice_index_or, slice_set}
use Rattle.std.proofs.lemmas.Nat.{pow_pos}
use Rattle.tapa_base.specs.declared.token.Token.{Token}
use Rattle.tapa_base.specs.declared.token.Token.TheVariants.{Datum, Eot as EotToken}
use Rattle.tapa_base.specs.declared.kind.Kind.{Kind}
use Rattle.tapa_base.specs.declared.kind.Kind.TheVariants as kind
use Rattle.tapa_base.specs.Kinds.{bits_of, values_of, converted}
use Rattle.tapa_base.specs.Operators.{applied}
use Rattle.tapa_syntax.specs.declared.program.Expr.{Expr}
use Rattle.tapa_syntax.specs.declared.program.Expr.TheVariants.{Lit, Var, Cell', Read, Peek, Eot, Load' as LoadCell, Conv', Apply', Flip', Not', And', Or', Choose'}
use Rattle.tapa_syntax.specs.declared.program.Stmt.{Stmt, Row_of-Stmt, end_of-Stmt, more_of-Stmt}
use Rattle.tapa_syntax.specs.declared.program.Stmt.TheVariants.{Set, SetCell, SetCellBy, Store as StoreCell, StoreBy, ReadVar, ReadCell, ReadStore, Write, Open as OpenIt, Close, Discard, Clear, If', Loop', Break, Continue}
use Rattle.tapa_syntax.specs.LeafKinds.{Kinds}
use Rattle.tapa_syntax.specs.Typed.{HasKind, IsTyped, AreTyped, IsTypedCode, right_kind, result_kind}
use Rattle.kahn_model.specs.Behavior.{Action, Local, Load, Store, Read as ByRead, Peek as ByPeek, TestEot, Open as ByOpen, Behavior, Finished, Act, Await, Answer, judge_token}
use Rattle.kahn_model.specs.Trace.{State, cell, with_cell, set_var, set_cell, store_cell, cells_of, cleared, at_zero, expr, locals, turns, stmt, block, statements, job_of}
use Rattle.kahn_model.specs.Fits.{IsTokenOf, ActionFits, KeepsKinds, IsFitState}
use Rattle.tapa_syntax.proofs.Values.{converted_fits, applied_fits}
use Rattle.tapa_base.proofs.Tests.{not_below, both_below}

pub set_below : (xs : List ℕ) (x v : ℕ) (k : ℕ → ℕ) → ((y : ℕ) → get_or xs y 0 < k y) → v < k x → (y : ℕ) → get_or (slice_set xs x v) y 0 < k y
set_below [] x v k h l y = h y
set_below (a ∷ xs) zero v k h l zero = l
set_below (a ∷ xs) zero v k h l (suc y) = h (suc y)
set_below (a ∷ xs) (suc x) v k h l zero = h zero
set_below (a ∷ xs) (suc x) v k h l (suc y) = set_below xs x v (λ z. k (suc z)) (λ z. h (suc z)) l y

pub row_below : (rows : List (List ℕ)) (r : ℕ) (row : List ℕ) (k : ℕ → ℕ) → ((a j : ℕ) → cell rows a j < k a) → ((j : ℕ) → get_or row j 0 < k r) → (a j : ℕ) → cell (slice_set rows r row) a j < k a
row_below [] r row k h l a j = h a j
row_below (x ∷ rows) zero row k h l zero j = l j
row_below (x ∷ rows) zero row k h l (suc a) j = h (suc a) j
row_below (x ∷ rows) (suc r) row k h l zero j = h zero j
row_below (x ∷ rows) (suc r) row k h l (suc a) j = row_below rows r row (λ z. k (suc z)) (λ z. h (suc z)) l a j

pub cell_below : (rows : List (List ℕ)) (r i v : ℕ) (k : ℕ → ℕ) → ((a j : ℕ) → cell rows a j < k a) → v < k r → (a j : ℕ) → cell (with_cell rows r i v) a j < k a
cell_below rows r i v k h l = row_below rows r (slice_set (slice_index_or rows r []) i v) k h (set_below (slice_index_or rows r []) i v (λ _. k r) (h r) l)

pub zeros_below : (n j m : ℕ) → 0 < m → get_or {A = ℕ} (replicate n 0) j 0 < m
zeros_below zero j m h = h
zeros_below (suc n) zero m h = h
zeros_below (suc n) (suc j) m h = zeros_below n j m h

pub fit_var : (K : Kinds) (σ : State) (x v : ℕ) → IsFitState K σ → v < values_of (K.vars x) → IsFitState K (set_var σ x v)
fit_var K σ x v h l = record { vars = set_below σ.vars x v (λ y. values_of (K.vars y)) h.vars l; arrays = h.arrays; cells = h.cells }

pub fit_cell : (K : Kinds) (σ : State) (a i v : ℕ) → IsFitState K σ → v < values_of (K.arrays a) → IsFitState K (set_cell σ a i v)
fit_cell K σ a i v h l = record { vars = h.vars; arrays = cell_below σ.arrays a i v (λ y. values_of (K.arrays y)) h.arrays l; cells = h.cells }

pub fit_store : (K : Kinds) (σ : State) (m i v : ℕ) → IsFitState K σ → v < values_of (K.memories m) → IsFitState K (store_cell σ m i v)
fit_store K σ m i v h l = record { vars = h.vars; arrays = h.arrays; cells = cell_below σ.cells m i v (λ y. values_of (K.memories y)) h.cells l }

pub fit_cleared : (K : Kinds) (σ : State) (a : ℕ) → IsFitState K σ → IsFitState K (cleared σ a)
fit_cleared K σ a h = record {
  vars = h.vars;
  arrays = row_below σ.arrays a (replicate (cells_of σ a) 0) (λ y. values_of (K.arrays y)) h.arrays (λ j. zeros_below (cells_of σ a) j _ (pow_pos (bits_of (K.arrays a))));
  cells = h.cells;
}

-- the operations
record Fit (K : Kinds) (t : Behavior) : Type 0 where
  keeps : KeepsKinds K.streams K.memories t

fit_act : (K : Kinds) (a : Action) (t : Behavior) → ActionFits K.streams K.memories a → Fit K t → Fit K (Act a t)
fit_act K a t h g = record { keeps = (h, g.keeps) }

pub read_value : (k : Kind) (t : Token) (v : ℕ) → IsTokenOf k t → judge_token ByRead t ≡ Answer t v → v < values_of k
read_value k (Datum d) v h e = let same : d ≡ v = cc in subst (λ x. x < values_of k) same h
read_value k EotToken v h e = absurd (cc)

pub peek_value : (k : Kind) (t : Token) (v : ℕ) → IsTokenOf k t → judge_token ByPeek t ≡ Answer t v → v < values_of k
peek_value k (Datum d) v h e = let same : d ≡ v = cc in subst (λ x. x < values_of k) same h
peek_value k EotToken v h e = absurd (cc)

pub eot_value : (t : Token) (v : ℕ) → judge_token TestEot t ≡ Answer t v → v < values_of kind.Bool
eot_value (Datum d) v e = let same : 0 ≡ v = cc in omega arith
eot_value EotToken v e = let same : 1 ≡ v = cc in omega arith

fit_read : (K : Kinds) (s : ℕ) (f : ℕ → Behavior) → ((v : ℕ) → v < values_of (K.streams s) → Fit K (f v)) → Fit K (Await s ByRead f)
fit_read K s f h = record { keeps = λ t v i e. (h v (read_value (K.streams s) t v i e)).keeps }

fit_peek : (K : Kinds) (s : ℕ) (f : ℕ → Behavior) → ((v : ℕ) → v < values_of (K.streams s) → Fit K (f v)) → Fit K (Await s ByPeek f)
fit_peek K s f h = record { keeps = λ t v i e. (h v (peek_value (K.streams s) t v i e)).keeps }

fit_eot : (K : Kinds) (s : ℕ) (f : ℕ → Behavior) → ((v : ℕ) → v < values_of kind.Bool → Fit K (f v)) → Fit K (Await s TestEot f)
fit_eot K s f h = record { keeps = λ t v i e. (h v (eot_value t v e)).keeps }

fit_open : (K : Kinds) (s : ℕ) (f : ℕ → Behavior) → ((v : ℕ) → Fit K (f v)) → Fit K (Await s ByOpen f)
fit_open K s f h = record { keeps = λ t v i e. (h v).keeps }

fit_at_zero : (K : Kinds) (v : ℕ) (a b : Behavior) → Fit K a → Fit K b → Fit K (at_zero v a b)
fit_at_zero K zero a b g h = g
fit_at_zero K (suc v) a b g h = h

fit_locals : (K : Kinds) (n : ℕ) (t : Behavior) → Fit K t → Fit K (locals n t)
fit_locals K zero t h = h
fit_locals K (suc n) t h = fit_act K Local _ tt (fit_locals K n t h)

-- values
pub of_kind : (j k : Kind) (v : ℕ) → j ≡ k → v < values_of j → v < values_of k
of_kind j k v e h = subst (λ c. v < values_of c) e h

pub flip_below : (k v : ℕ) → 2 ^ k - 1 - v < 2 ^ k
flip_below k v = let h = pow_pos k in omega arith

pub choice_below : (k : Kind) (v a b : ℕ) → a < values_of k → b < values_of k → at_zero v b a < values_of k
choice_below k zero a b p q = q
choice_below k (suc v) a b p q = p

-- an expression of a kind goes on with a value of that kind
fit_expr : (K : Kinds) (e : Expr) (k : Kind) → HasKind K e k → (σ : State) → IsFitState K σ → (f : ℕ → Behavior) → ((v : ℕ) → v < values_of k → Fit K (f v)) → Fit K (expr e σ f)
fit_expr K (Lit j n) k h σ g f c = c n h.1
fit_expr K (Var x) k h σ g f c = c _ (of_kind (K.vars x) k _ h (g.vars x))
fit_expr K (Cell' a p e) k h σ g f c = fit_expr K e kind.U64 h.1 σ g _ (λ i l. c _ (of_kind (K.arrays a) k _ h.0 (g.arrays a i)))
fit_expr K (Read s) k h σ g f c = fit_read K s f (λ v l. c v (of_kind (K.streams s) k v h l))
fit_expr K (Peek s) k h σ g f c = fit_peek K s f (λ v l. c v (of_kind (K.streams s) k v h l))
fit_expr K (Eot s) k h σ g f c = fit_eot K s f (λ v l. c v (of_kind kind.Bool k v h l))
fit_expr K (LoadCell m p e) k h σ g f c =
    fit_expr K e kind.U64 h.1 σ g _ (λ i l. fit_act K (Load m i) _ l (c _ (of_kind (K.memories m) k _ h.0 (g.cells m i))))
fit_expr K (Conv' from to p e) k h σ g f c = fit_expr K e from h.1 σ g _ (λ v l. c _ (of_kind to k _ h.0 (converted_fits from to v)))
fit_expr K (Apply' o j p l q r) k h σ g f c =
    fit_expr K l j h.1 σ g _ (λ a la. fit_expr K r (right_kind o j) h.2 σ g _ (λ b lb. c _ (of_kind (result_kind o j) k _ h.0 (applied_fits o j a b la lb))))
fit_expr K (Flip' j p e) k h σ g f c = fit_expr K e j h.1 σ g _ (λ v l. c _ (of_kind j k _ h.0 (flip_below (bits_of j) v)))
fit_expr K (Not' p e) k h σ g f c = fit_expr K e kind.Bool h.1 σ g _ (λ v l. c _ (of_kind kind.Bool k _ h.0 (not_below v)))
fit_expr K (And' p l q r) k h σ g f c =
    fit_expr K l kind.Bool h.1 σ g _ (λ a la. fit_expr K r kind.Bool h.2 σ g _ (λ b lb. c _ (of_kind kind.Bool k _ h.0 (both_below a b la lb))))
fit_expr K (Or' p l q r) k h σ g f c =
    fit_expr K l kind.Bool h.1 σ g _ (λ a la. fit_expr K r kind.Bool h.2 σ g _ (λ b lb. c _ (of_kind kind.Bool k _ h.0 (not_below ((1 - a) * (1 - b))))))
fit_expr K (Choose' p e q a r b) k h σ g f c =
    fit_expr K e kind.Bool h.0 σ g _ (λ v l. fit_expr K a k h.1 σ g _ (λ x lx. fit_expr K b k h.2 σ g _ (λ y ly. c _ (choice_below k v x y lx ly))))

-- statements
abbrev AreFit : Kinds → (State → Behavior) → Type 0
AreFit K f = (σ : State) → IsFitState K σ → Fit K (f σ)

fit_turns : (K : Kinds) (n : ℕ) (e : Expr) → HasKind K e kind.Bool → (b : State → (State → Behavior) → Behavior) (f : State → Behavior) → ((σ : State) → IsFitState K σ → (x : State → Behavior) → AreFit K x → Fit K (b σ x)) → AreFit K f → AreFit K (turns n (expr e) b f)
fit_turns K zero e h b f hb hf σ g = record { keeps = tt }
fit_turns K (suc n) e h b f hb hf σ g =
    fit_expr K e kind.Bool h σ g _ (λ v l. fit_act K Local _ tt (fit_at_zero K v _ _ (hf σ g) (hb σ g _ (fit_turns K n e h b f hb hf))))

mutual
  fit_stmt : (K : Kinds) (n : ℕ) (s : Stmt) → IsTyped K s → (f fo fa : State → Behavior) → AreFit K f → AreFit K fo → AreFit K fa → AreFit K (λ σ. stmt K n s σ f fo fa)
  fit_stmt K n (Set x e) t f fo fa h ho ha σ g = fit_expr K e (K.vars x) t σ g _ (λ v l. fit_act K Local _ tt (h _ (fit_var K σ x v g l)))
  fit_stmt K n (SetCell a i e) t f fo fa h ho ha σ g =
      fit_expr K e (K.arrays a) t.1 σ g _ (λ v l. fit_expr K i kind.U64 t.0 σ g _ (λ j m. fit_act K Local _ tt (h _ (fit_cell K σ a j v g l))))
  fit_stmt K n (SetCellBy a i o k e) t f fo fa h ho ha σ g =
      fit_expr K e (right_kind o k) t.1 σ g _ (λ v l. fit_expr K i kind.U64 t.0 σ g _ (λ j m. fit_act K Local _ tt (h _ (fit_cell K σ a j _ g (converted_fits k (K.arrays a) _)))))
  fit_stmt K n (StoreCell m i e) t f fo fa h ho ha σ g =
      fit_expr K e (K.memories m) t.1 σ g _ (λ v l. fit_expr K i kind.U64 t.0 σ g _ (λ j lj. fit_act K (Store m j v) _ (lj, l) (h _ (fit_store K σ m j v g l))))
  fit_stmt K n (StoreBy m i o k e) t f fo fa h ho ha σ g =
      fit_expr K e (right_kind o k) t.1 σ g _ (λ v l. fit_expr K i kind.U64 t.0 σ g _ (λ j lj.
      let w = converted_fits k (K.memories m) (applied o k (converted (K.memories m) k (cell σ.cells m j)) v) in
      fit_act K (Load m j) _ lj (fit_act K _ _ (lj, w) (h _ (fit_store K σ m j _ g w)))))
  fit_stmt K n (ReadVar s x) t f fo fa h ho ha σ g =
      fit_read K s _ (λ v l. fit_act K Local _ tt (h _ (fit_var K σ x _ g (converted_fits (K.streams s) (K.vars x) v))))
  fit_stmt K n (ReadCell s a i) t f fo fa h ho ha σ g =
      fit_expr K i kind.U64 t σ g _ (λ j m. fit_read K s _ (λ v l. fit_act K Local _ tt (h _ (fit_cell K σ a j _ g (converted_fits (K.streams s) (K.arrays a) v)))))
  fit_stmt K n (ReadStore s m i) t f fo fa h ho ha σ g =
      fit_expr K i kind.U64 t σ g _ (λ j lj. fit_read K s _ (λ v l.
      let w = converted_fits (K.streams s) (K.memories m) v in
      fit_act K _ _ (lj, w) (h _ (fit_store K σ m j _ g w))))
  fit_stmt K n (Write s e) t f fo fa h ho ha σ g = fit_expr K e (K.streams s) t σ g _ (λ v l. fit_act K _ _ l (h σ g))
  fit_stmt K n (OpenIt s) t f fo fa h ho ha σ g = fit_open K s _ (λ v. h σ g)
  fit_stmt K n (Close s) t f fo fa h ho ha σ g = fit_act K _ _ tt (h σ g)
  fit_stmt K n (Discard e) t f fo fa h ho ha σ g = fit_expr K e t.0 t.1 σ g _ (λ v l. h σ g)
  fit_stmt K n (Clear a) t f fo fa h ho ha σ g = fit_locals K (cells_of σ a) _ (h _ (fit_cleared K σ a g))
  fit_stmt K n (If' e p left q right) t f fo fa h ho ha σ g =
      fit_expr K e kind.Bool t.0 σ g _ (λ v l. fit_act K Local _ tt (fit_at_zero K v _ _ (fit_block K n right t.2 f fo fa h ho ha σ g) (fit_block K n left t.1 f fo fa h ho ha σ g)))
  fit_stmt K n (Loop' e p inner q step) t f fo fa h ho ha σ g =
      fit_turns K n e t.0 _ f (λ σ' g' x hx. let hs = fit_block K n step t.2 x f x hx h hx in fit_block K n inner t.1 _ f _ hs h hs σ' g') h σ g
  fit_stmt K n Break t f fo fa h ho ha σ g = ho σ g
  fit_stmt K n Continue t f fo fa h ho ha σ g = ha σ g

  fit_block : {l : _} → (K : Kinds) (n : ℕ) (b : Row_of-Stmt l) → AreTyped K b → (f fo fa : State → Behavior) → AreFit K f → AreFit K fo → AreFit K fa → AreFit K (λ σ. block K n b σ f fo fa)
  fit_block K n end_of-Stmt t f fo fa h ho ha σ g = h σ g
  fit_block K n (more_of-Stmt s rest) t f fo fa h ho ha σ g = fit_stmt K n s t.0 _ fo fa (fit_block K n rest t.1 f fo fa h ho ha) ho ha σ g

fit_end : (K : Kinds) → AreFit K (λ σ. Finished)
fit_end K σ g = record { keeps = tt }

fit_statements : (K : Kinds) (n : ℕ) (code : List Stmt) → IsTypedCode K code → (f fo fa : State → Behavior) → AreFit K f → AreFit K fo → AreFit K fa → AreFit K (λ σ. statements K n code σ f fo fa)
fit_statements K n [] t f fo fa h ho ha σ g = h σ g
fit_statements K n (s ∷ rest) t f fo fa h ho ha σ g = fit_stmt K n s t.0 _ fo fa (fit_statements K n rest t.1 f fo fa h ho ha) ho ha σ g

pub job_keeps_kinds : (K : Kinds) (code : List Stmt) → IsTypedCode K code → (σ : State) → IsFitState K σ → (n : ℕ) → KeepsKinds K.streams K.memories (job_of K code σ n)
job_keeps_kinds K code t σ g n = (fit_statements K n code t _ _ _ (fit_end K) (fit_end K) (fit_end K) σ g).keeps
