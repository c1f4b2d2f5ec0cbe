-- The network of a wired program is one for which the laws hold.
use Rattle.std.proofs.Common.{◌≡◌, ℕ, zero, suc, pred, ◌≤◌, List, [], ◌∷◌, Bool, true, false, Option, Some, None, refl, ap}
use Rattle.std.specs.Prelude.{slice_get}
use Rattle.tapa_syntax.specs.declared.program.Expr.{Expr}
use Rattle.tapa_syntax.specs.declared.program.Expr.TheVariants.{Lit, Var, Cell', Read, Peek, Eot, Load' as LoadCell, Conv', Apply', Flip', Not', And', Or', Choose'}
use Rattle.tapa_syntax.specs.declared.program.Stmt.{Stmt, Row_of-Stmt, end_of-Stmt, more_of-Stmt}
use Rattle.tapa_syntax.specs.declared.program.Stmt.TheVariants.{Set, SetCell, SetCellBy, Store as StoreCell, StoreBy, ReadVar, ReadCell, ReadStore, Write, Open as OpenIt, Close, Discard, Clear, If', Loop', Break, Continue}
use Rattle.tapa_syntax.specs.declared.program.Leaf.{Leaf}
use Rattle.tapa_syntax.specs.declared.program.Instance.{Instance}
use Rattle.tapa_syntax.specs.declared.program.Program.{Program}
use Rattle.kahn_model.specs.Behavior.{Action, Local, Put, Load, Store, StreamOperation, Read as ByRead, Peek as ByPeek, TestEot, Open as ByOpen, Behavior, Finished, OutOfTurns, Act, Await, Extends, Lasts}
use Rattle.kahn_model.specs.Trace.{State, cells_of, at_zero, expr, locals, turns, stmt, block, statements, job_of, act_at, at_streams}
use Rattle.tapa_syntax.specs.LeafKinds.{Kinds}
use Rattle.kahn_model.specs.ProgramNetwork.{stream_at, leaf_job, instance_job, network_with, IsBound, IsWired}
use Rattle.tapa_syntax.specs.LeafKinds.{writes_of, kinds_of}
use Rattle.tapa_syntax.specs.StreamUse.{UsesExpr, UsesStmt, UsesBlock, UsesCode}
use Rattle.kahn_model.specs.Network.{IsNetwork, OwnAct, Owns}
use Rattle.kahn_model.proofs.Statements.{job_extends, job_lasts}

-- a job puts only where w says so, and waits only where it says the other
abbrev pub KeepsAct : (ℕ → Option Bool) → Action → Type 0
KeepsAct w Local = Unit {0}
KeepsAct w (Put s t) = w s ≡ Some true
KeepsAct w (Load m a) = Unit {0}
KeepsAct w (Store m a v) = Unit {0}

abbrev pub Keeps : (ℕ → Option Bool) → Behavior → Type 0
Keeps w Finished = Unit {0}
Keeps w OutOfTurns = Unit {0}
Keeps w (Act a rest) = KeepsAct w a × Keeps w rest
Keeps w (Await s how rest) = (w s ≡ Some false) × ((v : ℕ) → Keeps w (rest v))

record Kept (w : ℕ → Option Bool) (t : Behavior) : Type 0 where
  kept : Keeps w t

kept_do : (w : ℕ → Option Bool) (a : Action) (t : Behavior) → KeepsAct w a → Kept w t → Kept w (Act a t)
kept_do w a t k h = record { kept = (k, h.kept) }

kept_ask : (w : ℕ → Option Bool) (s : ℕ) (how : StreamOperation) (f : ℕ → Behavior) → w s ≡ Some false → ((v : ℕ) → Kept w (f v)) → Kept w (Await s how f)
kept_ask w s how f e h = record { kept = (e, λ v. (h v).kept) }

kept_at_zero : (w : ℕ → Option Bool) (v : ℕ) (a b : Behavior) → Kept w a → Kept w b → Kept w (at_zero v a b)
kept_at_zero w zero a b g h = g
kept_at_zero w (suc v) a b g h = h

kept_locals : (w : ℕ → Option Bool) (n : ℕ) (t : Behavior) → Kept w t → Kept w (locals n t)
kept_locals w zero t h = h
kept_locals w (suc n) t h = kept_do w Local _ tt (kept_locals w n t h)

kept_expr : (w : ℕ → Option Bool) (e : Expr) → UsesExpr w e → (σ : State) (f : ℕ → Behavior) → ((v : ℕ) → Kept w (f v)) → Kept w (expr e σ f)
kept_expr w (Lit kind n) u σ f h = h n
kept_expr w (Var x) u σ f h = h _
kept_expr w (Cell' a p e) u σ f h = kept_expr w e u σ _ (λ i. h _)
kept_expr w (Read s) u σ f h = kept_ask w s ByRead f u h
kept_expr w (Peek s) u σ f h = kept_ask w s ByPeek f u h
kept_expr w (Eot s) u σ f h = kept_ask w s TestEot f u h
kept_expr w (LoadCell m p e) u σ f h = kept_expr w e u σ _ (λ i. kept_do w (Load m i) _ tt (h _))
kept_expr w (Conv' from to p e) u σ f h = kept_expr w e u σ _ (λ v. h _)
kept_expr w (Apply' op kind p l q e) (ul, ue) σ f h = kept_expr w l ul σ _ (λ a. kept_expr w e ue σ _ (λ b. h _))
kept_expr w (Flip' kind p e) u σ f h = kept_expr w e u σ _ (λ v. h _)
kept_expr w (Not' p e) u σ f h = kept_expr w e u σ _ (λ v. h _)
kept_expr w (And' p l q e) (ul, ue) σ f h = kept_expr w l ul σ _ (λ a. kept_expr w e ue σ _ (λ b. h _))
kept_expr w (Or' p l q e) (ul, ue) σ f h = kept_expr w l ul σ _ (λ a. kept_expr w e ue σ _ (λ b. h _))
kept_expr w (Choose' p c q a o b) (uc, ua, ub) σ f h = kept_expr w c uc σ _ (λ v. kept_expr w a ua σ _ (λ x. kept_expr w b ub σ _ (λ y. h _)))

abbrev AreKept : (ℕ → Option Bool) → (State → Behavior) → Type 0
AreKept w f = (σ : State) → Kept w (f σ)

kept_turns : (w : ℕ → Option Bool) (n : ℕ) (e : Expr) → UsesExpr w e → (b : State → (State → Behavior) → Behavior) (f : State → Behavior) → ((σ : State) (x : State → Behavior) → AreKept w x → Kept w (b σ x)) → AreKept w f → (σ : State) → Kept w (turns n (expr e) b f σ)
kept_turns w zero e u b f hb hf σ = record { kept = tt }
kept_turns w (suc n) e u b f hb hf σ =
    kept_expr w e u σ _ (λ v. kept_do w Local _ tt (kept_at_zero w v _ _ (hf σ) (hb σ _ (kept_turns w n e u b f hb hf))))

mutual
  kept_stmt : (w : ℕ → Option Bool) (K : Kinds) (n : ℕ) (s : Stmt) → UsesStmt w s → (f fo fa : State → Behavior) → AreKept w f → AreKept w fo → AreKept w fa → (σ : State) → Kept w (stmt K n s σ f fo fa)
  kept_stmt w K n (Set x e) u f fo fa h ho ha σ = kept_expr w e u σ _ (λ v. kept_do w Local _ tt (h _))
  kept_stmt w K n (SetCell a i e) (ui, ue) f fo fa h ho ha σ = kept_expr w e ue σ _ (λ v. kept_expr w i ui σ _ (λ j. kept_do w Local _ tt (h _)))
  kept_stmt w K n (SetCellBy a i op kind e) (ui, ue) f fo fa h ho ha σ = kept_expr w e ue σ _ (λ v. kept_expr w i ui σ _ (λ j. kept_do w Local _ tt (h _)))
  kept_stmt w K n (StoreCell m i e) (ui, ue) f fo fa h ho ha σ = kept_expr w e ue σ _ (λ v. kept_expr w i ui σ _ (λ j. kept_do w (Store m j v) _ tt (h _)))
  kept_stmt w K n (StoreBy m i op kind e) (ui, ue) f fo fa h ho ha σ = kept_expr w e ue σ _ (λ v. kept_expr w i ui σ _ (λ j. kept_do w (Load m j) _ tt (kept_do w _ _ tt (h _))))
  kept_stmt w K n (ReadVar s x) u f fo fa h ho ha σ = kept_ask w s ByRead _ u (λ v. kept_do w Local _ tt (h _))
  kept_stmt w K n (ReadCell s a i) (us, ui) f fo fa h ho ha σ = kept_expr w i ui σ _ (λ j. kept_ask w s ByRead _ us (λ v. kept_do w Local _ tt (h _)))
  kept_stmt w K n (ReadStore s m i) (us, ui) f fo fa h ho ha σ = kept_expr w i ui σ _ (λ j. kept_ask w s ByRead _ us (λ v. kept_do w _ _ tt (h _)))
  kept_stmt w K n (Write s e) (us, ue) f fo fa h ho ha σ = kept_expr w e ue σ _ (λ v. kept_do w _ _ us (h _))
  kept_stmt w K n (OpenIt s) u f fo fa h ho ha σ = kept_ask w s ByOpen _ u (λ v. h _)
  kept_stmt w K n (Close s) u f fo fa h ho ha σ = kept_do w _ _ u (h _)
  kept_stmt w K n (Discard e) u f fo fa h ho ha σ = kept_expr w e u σ _ (λ v. h _)
  kept_stmt w K n (Clear a) u f fo fa h ho ha σ = kept_locals w (cells_of σ a) _ (h _)
  kept_stmt w K n (If' e p left q right) (ue, ul, ur) f fo fa h ho ha σ =
      kept_expr w e ue σ _ (λ v. kept_do w Local _ tt (kept_at_zero w v _ _ (kept_block w K n right ur f fo fa h ho ha σ) (kept_block w K n left ul f fo fa h ho ha σ)))
  kept_stmt w K n (Loop' e p inner q step) (ue, ui, us) f fo fa h ho ha σ =
      kept_turns w n e ue _ f (λ σ' x hx. let hs = kept_block w K n step us x f x hx h hx in kept_block w K n inner ui _ f _ hs h hs σ') h σ
  kept_stmt w K n Break u f fo fa h ho ha σ = ho σ
  kept_stmt w K n Continue u f fo fa h ho ha σ = ha σ

  kept_block : {l : _} → (w : ℕ → Option Bool) (K : Kinds) (n : ℕ) (b : Row_of-Stmt l) → UsesBlock w b → (f fo fa : State → Behavior) → AreKept w f → AreKept w fo → AreKept w fa → (σ : State) → Kept w (block K n b σ f fo fa)
  kept_block w K n end_of-Stmt u f fo fa h ho ha σ = h σ
  kept_block w K n (more_of-Stmt s rest) (us, ur) f fo fa h ho ha σ =
      kept_stmt w K n s us _ fo fa (kept_block w K n rest ur f fo fa h ho ha) ho ha σ

finished : (w : ℕ → Option Bool) → AreKept w (λ σ. Finished)
finished w σ = record { kept = tt }

kept_statements : (w : ℕ → Option Bool) (K : Kinds) (n : ℕ) (code : List Stmt) → UsesCode w code → (f fo fa : State → Behavior) → AreKept w f → AreKept w fo → AreKept w fa → (σ : State) → Kept w (statements K n code σ f fo fa)
kept_statements w K n [] u f fo fa h ho ha σ = h σ
kept_statements w K n (s ∷ rest) (us, ur) f fo fa h ho ha σ = kept_stmt w K n s us _ fo fa (kept_statements w K n rest ur f fo fa h ho ha) ho ha σ

pub body_keeps : (leaf : Leaf) → UsesCode (writes_of leaf.streams.items) leaf.code.items → (σ : State) (n : ℕ) → Keeps (writes_of leaf.streams.items) (job_of (kinds_of leaf) leaf.code.items σ n)
body_keeps leaf u σ n =
    (kept_statements (writes_of leaf.streams.items) (kinds_of leaf) n leaf.code.items u _ _ _ (finished _) (finished _) (finished _) σ).kept

-- at the streams of an instance
extends_at : (f : ℕ → ℕ) (a b : Behavior) → Extends a b → Extends (at_streams f a) (at_streams f b)
extends_at f Finished b e = ap (at_streams f) e
extends_at f OutOfTurns b e = tt
extends_at f (Act a rest) b (rest', e, h) = (at_streams f rest', ap (at_streams f) e, extends_at f rest rest' h)
extends_at f (Await s how rest) b (rest', e, h) = (λ v. at_streams f (rest' v), ap (at_streams f) e, λ v. extends_at f (rest v) (rest' v) (h v))

lasts_at : (f : ℕ → ℕ) (a : Behavior) (n : ℕ) → Lasts a n → Lasts (at_streams f a) n
lasts_at f Finished n h = tt
lasts_at f OutOfTurns n h = h
lasts_at f (Act a rest) n h = lasts_at f rest (pred n) h
lasts_at f (Await s how rest) n h = λ v. lasts_at f (rest v) (pred n) (h v)

own_act_at : (p : ℕ → ℕ) (i : ℕ) (w : ℕ → Option Bool) (f : ℕ → ℕ) → ((s : ℕ) → w s ≡ Some true → p (f s) ≡ i) → (a : Action) → KeepsAct w a → OwnAct p i (act_at f a)
own_act_at p i w f h Local k = tt
own_act_at p i w f h (Put s t) k = h s k
own_act_at p i w f h (Load m a) k = tt
own_act_at p i w f h (Store m a v) k = tt

owns_at : (p c : ℕ → ℕ) (i : ℕ) (w : ℕ → Option Bool) (f : ℕ → ℕ) → ((s : ℕ) → w s ≡ Some true → p (f s) ≡ i) → ((s : ℕ) → w s ≡ Some false → c (f s) ≡ i) → (a : Behavior) → Keeps w a → Owns p c i (at_streams f a)
owns_at p c i w f hp hc Finished k = tt
owns_at p c i w f hp hc OutOfTurns k = tt
owns_at p c i w f hp hc (Act a rest) (k, ks) = (own_act_at p i w f hp a k, owns_at p c i w f hp hc rest ks)
owns_at p c i w f hp hc (Await s how rest) (k, ks) = (hc s k, λ v. owns_at p c i w f hp hc (rest v) (ks v))

leaf_grows : (leaf : Option Leaf) (instance : Instance) (σ : State) (n m : ℕ) → n ≤ m → Extends (leaf_job leaf instance σ n) (leaf_job leaf instance σ m)
leaf_grows None instance σ n m le = refl
leaf_grows (Some leaf) instance σ n m le = extends_at (stream_at instance) _ _ (job_extends (kinds_of leaf) leaf.code.items σ n m le)

leaf_lasts : (leaf : Option Leaf) (instance : Instance) (σ : State) (n : ℕ) → Lasts (leaf_job leaf instance σ n) n
leaf_lasts None instance σ n = tt
leaf_lasts (Some leaf) instance σ n = lasts_at (stream_at instance) (job_of (kinds_of leaf) leaf.code.items σ n) n (job_lasts (kinds_of leaf) leaf.code.items σ n)

leaf_owns : (p c : ℕ → ℕ) (i : ℕ) (o : Option Leaf) (instance : Instance) (σ : State) (n : ℕ) → ((leaf : Leaf) → o ≡ Some leaf → IsBound p c i instance leaf) → Owns p c i (leaf_job o instance σ n)
leaf_owns p c i None instance σ n h = tt
leaf_owns p c i (Some leaf) instance σ n h =
    let b = h leaf refl in
    owns_at p c i (writes_of leaf.streams.items) (stream_at instance) b.writer b.reader _ (body_keeps leaf b.uses σ n)

instance_grows : (leaves : List Leaf) (o : Option Instance) (σ : State) (n m : ℕ) → n ≤ m → Extends (instance_job leaves o σ n) (instance_job leaves o σ m)
instance_grows leaves None σ n m le = refl
instance_grows leaves (Some instance) σ n m le = leaf_grows (slice_get leaves instance.body) instance σ n m le

instance_lasts : (leaves : List Leaf) (o : Option Instance) (σ : State) (n : ℕ) → Lasts (instance_job leaves o σ n) n
instance_lasts leaves None σ n = tt
instance_lasts leaves (Some instance) σ n = leaf_lasts (slice_get leaves instance.body) instance σ n

instance_owns : (p c : ℕ → ℕ) (i : ℕ) (leaves : List Leaf) (o : Option Instance) (σ : State) (n : ℕ) → ((instance : Instance) (leaf : Leaf) → o ≡ Some instance → slice_get leaves instance.body ≡ Some leaf → IsBound p c i instance leaf) → Owns p c i (instance_job leaves o σ n)
instance_owns p c i leaves None σ n h = tt
instance_owns p c i leaves (Some instance) σ n h = leaf_owns p c i (slice_get leaves instance.body) instance σ n (λ leaf e. h instance leaf refl e)

pub wired_network : (program : Program) → IsWired program → (first : ℕ → State) → IsNetwork (network_with program first)
wired_network program w first = record {
  grows = λ i n m le. instance_grows program.bodies.items (slice_get program.instances.items i) (first i) n m le;
  lasts = λ i n. instance_lasts program.bodies.items (slice_get program.instances.items i) (first i) n;
  owns = λ i n. instance_owns _ _ i program.bodies.items (slice_get program.instances.items i) (first i) n (λ instance leaf. w.bound first i instance leaf);
}
