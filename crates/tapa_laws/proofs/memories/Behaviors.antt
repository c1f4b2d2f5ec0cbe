-- What holds of each position that a leaf's code stores to holds of each position that its job stores to.
use Rattle.std.proofs.Common.{ℕ, zero, suc, List, [], ◌∷◌, map}
use Rattle.tapa_syntax.specs.declared.program.Expr.{Expr}
use Rattle.tapa_syntax.specs.declared.program.Expr.TheVariants.{Lit, Var, Cell', Read, Peek, Eot, Load' as LoadCell, Conv', Apply', Flip', Not', And', Or', Choose'}
use Rattle.tapa_syntax.specs.declared.program.Stmt.{Stmt, Row_of-Stmt, end_of-Stmt, more_of-Stmt}
use Rattle.tapa_syntax.specs.declared.program.Stmt.TheVariants.{Set, SetCell, SetCellBy, Store as StoreCell, StoreBy, ReadVar, ReadCell, ReadStore, Write, Open as OpenIt}
use Rattle.tapa_syntax.specs.declared.program.Stmt.TheVariants.{Close, Discard, Clear, If', Loop', Break, Continue}
use Rattle.tapa_syntax.specs.LeafKinds.{Kinds}
use Rattle.tapa_syntax.specs.Flat.{flat_statement, flat_row}
use Rattle.kahn_model.specs.declared.tick.Action.{Action}
use Rattle.kahn_model.specs.declared.tick.Action.TheVariants.{Local, Put, Load, Store}
use Rattle.kahn_model.specs.declared.tick.StreamOperation.{StreamOperation}
use Rattle.kahn_model.specs.declared.tick.StreamOperation.TheVariants.{Read as ByRead, Peek as ByPeek, TestEot, Open as ByOpen}
use Rattle.kahn_model.specs.Behavior.{Behavior, Finished, OutOfTurns, Act, Await}
use Rattle.kahn_model.specs.Trace.{State, cells_of, at_zero, expr, locals, turns, stmt, block, statements, job_of, act_at, at_streams}
use Rattle.tapa_laws.specs.memories.Stores.{StoresAt, RowStoresAt, CodeStoresAt}

-- F holds of the position that an act stores to
abbrev pub ActsAt : (ℕ → Type 0) → Action → Type 0
ActsAt F Local = Unit {0}
ActsAt F (Put s t) = Unit {0}
ActsAt F (Load m a) = Unit {0}
ActsAt F (Store m a v) = F m

-- F holds of each position that a behavior stores to
abbrev pub BehavesAt : (ℕ → Type 0) → Behavior → Type 0
BehavesAt F Finished = Unit {0}
BehavesAt F OutOfTurns = Unit {0}
BehavesAt F (Act a rest) = ActsAt F a × BehavesAt F rest
BehavesAt F (Await s how rest) = (v : ℕ) → BehavesAt F (rest v)

-- BehavesAt as a record, so that its arguments are found where it is used
record Kept (F : ℕ → Type 0) (t : Behavior) : Type 0 where
  kept : BehavesAt F t

kept_do : (F : ℕ → Type 0) (a : Action) (t : Behavior) → ActsAt F a → Kept F t → Kept F (Act a t)
kept_do F a t k h = record { kept = (k, h.kept) }

kept_ask : (F : ℕ → Type 0) (s : ℕ) (how : StreamOperation) (f : ℕ → Behavior) → ((v : ℕ) → Kept F (f v)) → Kept F (Await s how f)
kept_ask F s how f h = record { kept = λ v. (h v).kept }

kept_at_zero : (F : ℕ → Type 0) (v : ℕ) (a b : Behavior) → Kept F a → Kept F b → Kept F (at_zero v a b)
kept_at_zero F zero a b g h = g
kept_at_zero F (suc v) a b g h = h

kept_locals : (F : ℕ → Type 0) (n : ℕ) (t : Behavior) → Kept F t → Kept F (locals n t)
kept_locals F zero t h = h
kept_locals F (suc n) t h = kept_do F Local _ tt (kept_locals F n t h)

kept_expr : (F : ℕ → Type 0) (e : Expr) (σ : State) (f : ℕ → Behavior) → ((v : ℕ) → Kept F (f v)) → Kept F (expr e σ f)
kept_expr F (Lit kind n) σ f h = h n
kept_expr F (Var x) σ f h = h _
kept_expr F (Cell' a p e) σ f h = kept_expr F e σ _ (λ i. h _)
kept_expr F (Read s) σ f h = kept_ask F s ByRead f h
kept_expr F (Peek s) σ f h = kept_ask F s ByPeek f h
kept_expr F (Eot s) σ f h = kept_ask F s TestEot f h
kept_expr F (LoadCell m p e) σ f h = kept_expr F e σ _ (λ i. kept_do F (Load m i) _ tt (h _))
kept_expr F (Conv' from to p e) σ f h = kept_expr F e σ _ (λ v. h _)
kept_expr F (Apply' op kind p l q e) σ f h = kept_expr F l σ _ (λ a. kept_expr F e σ _ (λ b. h _))
kept_expr F (Flip' kind p e) σ f h = kept_expr F e σ _ (λ v. h _)
kept_expr F (Not' p e) σ f h = kept_expr F e σ _ (λ v. h _)
kept_expr F (And' p l q e) σ f h = kept_expr F l σ _ (λ a. kept_expr F e σ _ (λ b. h _))
kept_expr F (Or' p l q e) σ f h = kept_expr F l σ _ (λ a. kept_expr F e σ _ (λ b. h _))
kept_expr F (Choose' p c q a o b) σ f h = kept_expr F c σ _ (λ v. kept_expr F a σ _ (λ x. kept_expr F b σ _ (λ y. h _)))

abbrev AreKept : (ℕ → Type 0) → (State → Behavior) → Type 0
AreKept F f = (σ : State) → Kept F (f σ)

kept_turns : (F : ℕ → Type 0) (n : ℕ) (e : Expr) (b : State → (State → Behavior) → Behavior) (f : State → Behavior) → ((σ : State) (x : State → Behavior) → AreKept F x → Kept F (b σ x))
    → AreKept F f → (σ : State) → Kept F (turns n (expr e) b f σ)
kept_turns F zero e b f hb hf σ = record { kept = tt }
kept_turns F (suc n) e b f hb hf σ =
    kept_expr F e σ _ (λ v. kept_do F Local _ tt (kept_at_zero F v _ _ (hf σ) (hb σ _ (kept_turns F n e b f hb hf))))

mutual
  kept_stmt : (F : ℕ → Type 0) (K : Kinds) (n : ℕ) (s : Stmt) → StoresAt F (flat_statement s) → (f fo fa : State → Behavior) → AreKept F f → AreKept F fo → AreKept F fa → (σ : State)
      → Kept F (stmt K n s σ f fo fa)
  kept_stmt F K n (Set x e) u f fo fa h ho ha σ = kept_expr F e σ _ (λ v. kept_do F Local _ tt (h _))
  kept_stmt F K n (SetCell a i e) u f fo fa h ho ha σ = kept_expr F e σ _ (λ v. kept_expr F i σ _ (λ j. kept_do F Local _ tt (h _)))
  kept_stmt F K n (SetCellBy a i op kind e) u f fo fa h ho ha σ = kept_expr F e σ _ (λ v. kept_expr F i σ _ (λ j. kept_do F Local _ tt (h _)))
  kept_stmt F K n (StoreCell m i e) u f fo fa h ho ha σ = kept_expr F e σ _ (λ v. kept_expr F i σ _ (λ j. kept_do F (Store m j v) _ u (h _)))
  kept_stmt F K n (StoreBy m i op kind e) u f fo fa h ho ha σ = kept_expr F e σ _ (λ v. kept_expr F i σ _ (λ j. kept_do F (Load m j) _ tt (kept_do F _ _ u (h _))))
  kept_stmt F K n (ReadVar s x) u f fo fa h ho ha σ = kept_ask F s ByRead _ (λ v. kept_do F Local _ tt (h _))
  kept_stmt F K n (ReadCell s a i) u f fo fa h ho ha σ = kept_expr F i σ _ (λ j. kept_ask F s ByRead _ (λ v. kept_do F Local _ tt (h _)))
  kept_stmt F K n (ReadStore s m i) u f fo fa h ho ha σ = kept_expr F i σ _ (λ j. kept_ask F s ByRead _ (λ v. kept_do F _ _ u (h _)))
  kept_stmt F K n (Write s e) u f fo fa h ho ha σ = kept_expr F e σ _ (λ v. kept_do F _ _ tt (h _))
  kept_stmt F K n (OpenIt s) u f fo fa h ho ha σ = kept_ask F s ByOpen _ (λ v. h _)
  kept_stmt F K n (Close s) u f fo fa h ho ha σ = kept_do F _ _ tt (h _)
  kept_stmt F K n (Discard e) u f fo fa h ho ha σ = kept_expr F e σ _ (λ v. h _)
  kept_stmt F K n (Clear a) u f fo fa h ho ha σ = kept_locals F (cells_of σ a) _ (h _)
  kept_stmt F K n (If' e p left q right) (ul, ur) f fo fa h ho ha σ =
      kept_expr F e σ _ (λ v. kept_do F Local _ tt (kept_at_zero F v _ _ (kept_block F K n right ur f fo fa h ho ha σ) (kept_block F K n left ul f fo fa h ho ha σ)))
  kept_stmt F K n (Loop' e p inner q step) (ui, us) f fo fa h ho ha σ =
      kept_turns F n e _ f (λ σ' x hx. let hs = kept_block F K n step us x f x hx h hx in kept_block F K n inner ui _ f _ hs h hs σ') h σ
  kept_stmt F K n Break u f fo fa h ho ha σ = ho σ
  kept_stmt F K n Continue u f fo fa h ho ha σ = ha σ

  kept_block : {l : _} → (F : ℕ → Type 0) (K : Kinds) (n : ℕ) (b : Row_of-Stmt l) → RowStoresAt F (flat_row b) → (f fo fa : State → Behavior) → AreKept F f → AreKept F fo → AreKept F fa → (σ : State)
      → Kept F (block K n b σ f fo fa)
  kept_block F K n end_of-Stmt u f fo fa h ho ha σ = h σ
  kept_block F K n (more_of-Stmt s rest) (us, ur) f fo fa h ho ha σ =
      kept_stmt F K n s us _ fo fa (kept_block F K n rest ur f fo fa h ho ha) ho ha σ

finished : (F : ℕ → Type 0) → AreKept F (λ σ. Finished)
finished F σ = record { kept = tt }

kept_statements : (F : ℕ → Type 0) (K : Kinds) (n : ℕ) (code : List Stmt) → CodeStoresAt F (map flat_statement code) → (f fo fa : State → Behavior) → AreKept F f → AreKept F fo → AreKept F fa
    → (σ : State) → Kept F (statements K n code σ f fo fa)
kept_statements F K n [] u f fo fa h ho ha σ = h σ
kept_statements F K n (s ∷ rest) (us, ur) f fo fa h ho ha σ = kept_stmt F K n s us _ fo fa (kept_statements F K n rest ur f fo fa h ho ha) ho ha σ

pub job_behaves : (F : ℕ → Type 0) (K : Kinds) (code : List Stmt) → CodeStoresAt F (map flat_statement code) → (σ : State) (n : ℕ) → BehavesAt F (job_of K code σ n)
job_behaves F K code u σ n = (kept_statements F K n code u _ _ _ (finished F) (finished F) (finished F) σ).kept

-- at the streams of an instance
act_at_same : (F : ℕ → Type 0) (f : ℕ → ℕ) (a : Action) → ActsAt F a → ActsAt F (act_at f a)
act_at_same F f Local k = tt
act_at_same F f (Put s t) k = tt
act_at_same F f (Load m a) k = tt
act_at_same F f (Store m a v) k = k

pub streams_behave : (F : ℕ → Type 0) (f : ℕ → ℕ) (a : Behavior) → BehavesAt F a → BehavesAt F (at_streams f a)
streams_behave F f Finished k = tt
streams_behave F f OutOfTurns k = tt
streams_behave F f (Act a rest) (k, ks) = (act_at_same F f a k, streams_behave F f rest ks)
streams_behave F f (Await s how rest) k = λ v. streams_behave F f (rest v) (k v)
