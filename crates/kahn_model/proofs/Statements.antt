-- The job of a body grows with the tests that its loops may make, and is cut only after as many ticks.
use Rattle.std.proofs.Common.{◌≡◌, ℕ, zero, suc, pred, ◌≤◌, List, [], ◌∷◌, refl, arith}
use Rattle.tapa_syntax.specs.declared.program.Expr.{Expr}
use Rattle.tapa_syntax.specs.declared.program.Expr.TheVariants.{Lit, Var, Cell', Read, Peek, Eot, Load' as LoadCell, Conv', Apply', Flip', Not', And', Or', Choose'}
use Rattle.tapa_syntax.specs.declared.program.Stmt.{Stmt, Row_of-Stmt, end_of-Stmt, more_of-Stmt}
use Rattle.tapa_syntax.specs.declared.program.Stmt.TheVariants.{Set, SetCell, SetCellBy, Store as StoreCell, StoreBy, ReadVar, ReadCell, ReadStore, Write, Open as OpenIt, Close, Discard, Clear, If', Loop', Break, Continue}
use Rattle.kahn_model.specs.Behavior.{Action, Local, Load, Store, StreamOperation, Read as ByRead, Peek as ByPeek, TestEot, Open as ByOpen, Behavior, Finished, OutOfTurns, Act, Await, Extends, Lasts}
use Rattle.kahn_model.specs.Trace.{State, cells_of, at_zero, expr, locals, turns, stmt, block, statements, job_of}
use Rattle.tapa_syntax.specs.LeafKinds.{Kinds}

-- b is a where a is not cut, and a is cut after r ticks or more
abbrev pub IsGood : ℕ → Behavior → Behavior → Type 0
IsGood r Finished b = b ≡ Finished
IsGood r OutOfTurns b = r ≡ 0
IsGood r (Act a rest) b = (rest' : Behavior) × (b ≡ Act a rest') × IsGood (pred r) rest rest'
IsGood r (Await s how rest) b = (rest' : ℕ → Behavior) × (b ≡ Await s how rest') × ((v : ℕ) → IsGood (pred r) (rest v) (rest' v))

pub good_less : (a b : Behavior) (q r : ℕ) → q ≤ r → IsGood r a b → IsGood q a b
good_less Finished b q r h g = g
good_less OutOfTurns b q r h g = omega arith
good_less (Act a rest) b q r h (rest', e, g) = (rest', e, good_less rest rest' (pred q) (pred r) (omega arith) g)
good_less (Await s how rest) b q r h (rest', e, g) = (rest', e, λ v. good_less (rest v) (rest' v) (pred q) (pred r) (omega arith) (g v))

pub good_extends : (a b : Behavior) (r : ℕ) → IsGood r a b → Extends a b
good_extends Finished b r g = g
good_extends OutOfTurns b r g = tt
good_extends (Act a rest) b r (rest', e, g) = (rest', e, good_extends rest rest' (pred r) g)
good_extends (Await s how rest) b r (rest', e, g) = (rest', e, λ v. good_extends (rest v) (rest' v) (pred r) (g v))

pub good_lasts : (a b : Behavior) (r : ℕ) → IsGood r a b → Lasts a r
good_lasts Finished b r g = tt
good_lasts OutOfTurns b r g = g
good_lasts (Act a rest) b r (rest', e, g) = good_lasts rest rest' (pred r) g
good_lasts (Await s how rest) b r (rest', e, g) = λ v. good_lasts (rest v) (rest' v) (pred r) (g v)

-- the same as a record, whose arguments antt finds
pub record Good (r : ℕ) (a b : Behavior) : Type 0 where
  pub good : IsGood r a b

good_do : (r : ℕ) (a : Action) (t u : Behavior) → Good r t u → Good r (Act a t) (Act a u)
good_do r a t u g = record { good = (u, refl, good_less t u (pred r) r (omega arith) g.good) }

good_ask : (r s : ℕ) (how : StreamOperation) (f g : ℕ → Behavior) → ((v : ℕ) → Good r (f v) (g v)) → Good r (Await s how f) (Await s how g)
good_ask r s how f g h = record { good = (g, refl, λ v. good_less (f v) (g v) (pred r) r (omega arith) (h v).good) }

good_cut : (r : ℕ) (b : Behavior) → r ≡ 0 → Good r OutOfTurns b
good_cut r b e = record { good = e }

good_lower : (a b : Behavior) (q r : ℕ) → q ≤ r → Good r a b → Good q a b
good_lower a b q r h g = record { good = good_less a b q r h g.good }

-- an act, after which one tick less is owed
good_paid : (r : ℕ) (a : Action) (t u : Behavior) → Good (pred r) t u → Good r (Act a t) (Act a u)
good_paid r a t u g = record { good = (u, refl, g.good) }

good_at_zero : (r v : ℕ) (a b a' b' : Behavior) → Good r a a' → Good r b b' → Good r (at_zero v a b) (at_zero v a' b')
good_at_zero r zero a b a' b' g h = g
good_at_zero r (suc v) a b a' b' g h = h

good_expr : (e : Expr) (σ : State) (r : ℕ) (f g : ℕ → Behavior) → ((v : ℕ) → Good r (f v) (g v)) → Good r (expr e σ f) (expr e σ g)
good_expr (Lit kind n) σ r f g h = h n
good_expr (Var x) σ r f g h = h _
good_expr (Cell' a p e) σ r f g h = good_expr e σ r _ _ (λ i. h _)
good_expr (Read s) σ r f g h = good_ask r s ByRead f g h
good_expr (Peek s) σ r f g h = good_ask r s ByPeek f g h
good_expr (Eot s) σ r f g h = good_ask r s TestEot f g h
good_expr (LoadCell m p e) σ r f g h = good_expr e σ r _ _ (λ i. good_do r (Load m i) _ _ (h _))
good_expr (Conv' from to p e) σ r f g h = good_expr e σ r _ _ (λ v. h _)
good_expr (Apply' op kind p l q e) σ r f g h = good_expr l σ r _ _ (λ a. good_expr e σ r _ _ (λ b. h _))
good_expr (Flip' kind p e) σ r f g h = good_expr e σ r _ _ (λ v. h _)
good_expr (Not' p e) σ r f g h = good_expr e σ r _ _ (λ v. h _)
good_expr (And' p l q e) σ r f g h = good_expr l σ r _ _ (λ a. good_expr e σ r _ _ (λ b. h _))
good_expr (Or' p l q e) σ r f g h = good_expr l σ r _ _ (λ a. good_expr e σ r _ _ (λ b. h _))
good_expr (Choose' p c q a o b) σ r f g h = good_expr c σ r _ _ (λ v. good_expr a σ r _ _ (λ x. good_expr b σ r _ _ (λ y. h _)))

good_locals : (n r : ℕ) (t u : Behavior) → Good r t u → Good r (locals n t) (locals n u)
good_locals zero r t u g = g
good_locals (suc n) r t u g = good_do r Local _ _ (good_locals n r t u g)

-- what goes on after a statement
abbrev pub AreGood : ℕ → (State → Behavior) → (State → Behavior) → Type 0
AreGood r f g = (σ : State) → Good r (f σ) (g σ)

good_turns : (n m r : ℕ) → n ≤ m → r ≤ n → (e : Expr) (b c : State → (State → Behavior) → Behavior) (f g : State → Behavior) → ((q : ℕ) → q ≤ r → (σ : State) (x y : State → Behavior) → AreGood q x y → Good q (b σ x) (c σ y)) → AreGood r f g → (σ : State) → Good r (turns n (expr e) b f σ) (turns m (expr e) c g σ)
good_turns zero m r le lr e b c f g hb hg σ = good_cut r _ (omega arith)
good_turns (suc n) zero r le lr e b c f g hb hg σ = absurd (omega arith)
good_turns (suc n) (suc m) r le lr e b c f g hb hg σ =
    let less : AreGood (pred r) f g = λ σ'. good_lower (f σ') (g σ') (pred r) r (omega arith) (hg σ') in
    let within : (q : ℕ) → q ≤ pred r → (σ : State) (x y : State → Behavior) → AreGood q x y → Good q (b σ x) (c σ y) = λ q l. hb q (omega arith) in
    good_expr e σ r _ _ (λ v. good_paid r Local _ _
    (good_at_zero (pred r) v (f σ) (b σ (turns n (expr e) b f)) (g σ) (c σ (turns m (expr e) c g)) (less σ)
    (hb (pred r) (omega arith) σ _ _ (good_turns n m (pred r) (omega arith) (omega arith) e b c f g within less))))

less_good : (q r : ℕ) (f g : State → Behavior) → q ≤ r → AreGood r f g → AreGood q f g
less_good q r f g h a σ = good_lower (f σ) (g σ) q r h (a σ)

mutual
  good_stmt : (K : Kinds) (n m : ℕ) → n ≤ m → (s : Stmt) (r : ℕ) → r ≤ n → (f g fo go fa ga : State → Behavior) → AreGood r f g → AreGood r fo go → AreGood r fa ga → (σ : State) → Good r (stmt K n s σ f fo fa) (stmt K m s σ g go ga)
  good_stmt K n m le (Set x e) r lr f g fo go fa ga h ho ha σ = good_expr e σ r _ _ (λ v. good_do r Local _ _ (h _))
  good_stmt K n m le (SetCell a i e) r lr f g fo go fa ga h ho ha σ = good_expr e σ r _ _ (λ v. good_expr i σ r _ _ (λ j. good_do r Local _ _ (h _)))
  good_stmt K n m le (SetCellBy a i op kind e) r lr f g fo go fa ga h ho ha σ = good_expr e σ r _ _ (λ v. good_expr i σ r _ _ (λ j. good_do r Local _ _ (h _)))
  good_stmt K n m le (StoreCell mem i e) r lr f g fo go fa ga h ho ha σ = good_expr e σ r _ _ (λ v. good_expr i σ r _ _ (λ j. good_do r (Store mem j v) _ _ (h _)))
  good_stmt K n m le (StoreBy mem i op kind e) r lr f g fo go fa ga h ho ha σ = good_expr e σ r _ _ (λ v. good_expr i σ r _ _ (λ j. good_do r (Load mem j) _ _ (good_do r _ _ _ (h _))))
  good_stmt K n m le (ReadVar s x) r lr f g fo go fa ga h ho ha σ = good_ask r s ByRead _ _ (λ v. good_do r Local _ _ (h _))
  good_stmt K n m le (ReadCell s a i) r lr f g fo go fa ga h ho ha σ = good_expr i σ r _ _ (λ j. good_ask r s ByRead _ _ (λ v. good_do r Local _ _ (h _)))
  good_stmt K n m le (ReadStore s mem i) r lr f g fo go fa ga h ho ha σ = good_expr i σ r _ _ (λ j. good_ask r s ByRead _ _ (λ v. good_do r _ _ _ (h _)))
  good_stmt K n m le (Write s e) r lr f g fo go fa ga h ho ha σ = good_expr e σ r _ _ (λ v. good_do r _ _ _ (h _))
  good_stmt K n m le (OpenIt s) r lr f g fo go fa ga h ho ha σ = good_ask r s ByOpen _ _ (λ v. h _)
  good_stmt K n m le (Close s) r lr f g fo go fa ga h ho ha σ = good_do r _ _ _ (h _)
  good_stmt K n m le (Discard e) r lr f g fo go fa ga h ho ha σ = good_expr e σ r _ _ (λ v. h _)
  good_stmt K n m le (Clear a) r lr f g fo go fa ga h ho ha σ = good_locals (cells_of σ a) r _ _ (h _)
  good_stmt K n m le (If' e p left q right) r lr f g fo go fa ga h ho ha σ =
      good_expr e σ r _ _ (λ v. good_do r Local _ _ (good_at_zero r v _ _ _ _ (good_block K n m le right r lr f g fo go fa ga h ho ha σ) (good_block K n m le left r lr f g fo go fa ga h ho ha σ)))
  good_stmt K n m le (Loop' e p inner q step) r lr f g fo go fa ga h ho ha σ =
      good_turns n m r le lr e _ _ f g
      (λ q l σ' x y hx.
      let hf = less_good q r f g l h in
      let hs = good_block K n m le step q (omega arith) x y f g x y hx hf hx in
      good_block K n m le inner q (omega arith) _ _ f g _ _ hs hf hs σ')
      h σ
  good_stmt K n m le Break r lr f g fo go fa ga h ho ha σ = ho σ
  good_stmt K n m le Continue r lr f g fo go fa ga h ho ha σ = ha σ

  good_block : {l : _} → (K : Kinds) (n m : ℕ) → n ≤ m → (b : Row_of-Stmt l) (r : ℕ) → r ≤ n → (f g fo go fa ga : State → Behavior) → AreGood r f g → AreGood r fo go → AreGood r fa ga → (σ : State) → Good r (block K n b σ f fo fa) (block K m b σ g go ga)
  good_block K n m le end_of-Stmt r lr f g fo go fa ga h ho ha σ = h σ
  good_block K n m le (more_of-Stmt s rest) r lr f g fo go fa ga h ho ha σ =
      good_stmt K n m le s r lr _ _ fo go fa ga (good_block K n m le rest r lr f g fo go fa ga h ho ha) ho ha σ

good_statements : (K : Kinds) (n m r : ℕ) → n ≤ m → r ≤ n → (code : List Stmt) (f g fo go fa ga : State → Behavior) → AreGood r f g → AreGood r fo go → AreGood r fa ga → (σ : State) → Good r (statements K n code σ f fo fa) (statements K m code σ g go ga)
good_statements K n m r le lr [] f g fo go fa ga h ho ha σ = h σ
good_statements K n m r le lr (s ∷ rest) f g fo go fa ga h ho ha σ =
    good_stmt K n m le s r lr _ _ fo go fa ga (good_statements K n m r le lr rest f g fo go fa ga h ho ha) ho ha σ

good_end : (r : ℕ) → AreGood r (λ σ. Finished) (λ σ. Finished)
good_end r σ = record { good = refl }

pub good_job : (K : Kinds) (code : List Stmt) (σ : State) (n m : ℕ) → n ≤ m → Good n (job_of K code σ n) (job_of K code σ m)
good_job K code σ n m le = good_statements K n m n le (omega arith) code _ _ _ _ _ _ (good_end n) (good_end n) (good_end n) σ

-- so a body's job has what a network asks of its jobs
pub job_extends : (K : Kinds) (code : List Stmt) (σ : State) (n m : ℕ) → n ≤ m → Extends (job_of K code σ n) (job_of K code σ m)
job_extends K code σ n m le = good_extends _ _ n (good_job K code σ n m le).good

pub job_lasts : (K : Kinds) (code : List Stmt) (σ : State) (n : ℕ) → Lasts (job_of K code σ n) n
job_lasts K code σ n = good_lasts _ _ n (good_job K code σ n n (omega arith)).good
