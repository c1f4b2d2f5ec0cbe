-- A job reads no array before its Clear, so the first cells of its arrays are no matter.
use Rattle.std.proofs.Common.{◌≡◌, ℕ, zero, suc, List, [], ◌∷◌, length, replicate, inr, ⊎_elim, refl, sym, ap, ◌∙◌, subst, arith}
use Rattle.std.specs.Prelude.{slice_index, slice_index_or, slice_set}
use Rattle.std.proofs.Math.Path.{fun_ext}
use Rattle.std.proofs.lemmas.List.{length-set}
use Rattle.tapa_base.specs.Kinds.{converted}
use Rattle.tapa_base.specs.Operators.{applied}
use Rattle.tapa_syntax.specs.ArrayUse.{In, FitsExpr, FitsStmt, FitsBlock, FitsCode, cleared_by}
use Rattle.tapa_syntax.specs.LeafKinds.{Kinds, kinds_of}
use Rattle.tapa_syntax.specs.WellFormed.{IsLeaf}
use Rattle.tapa_syntax.specs.declared.program.Leaf.{Leaf}
use Rattle.tapa_syntax.specs.declared.program.Expr.{Expr}
use Rattle.tapa_syntax.specs.declared.program.Expr.TheVariants.{Lit, Var, Cell', Read, Peek, Eot, Load' as LoadCell, Conv', Apply', Flip', Not', And', Or', Choose'}
use Rattle.tapa_syntax.specs.declared.program.Stmt.{Stmt, Row_of-Stmt, end_of-Stmt, more_of-Stmt}
use Rattle.tapa_syntax.specs.declared.program.Stmt.TheVariants.{Set, SetCell, SetCellBy, Store as StoreCell, StoreBy, ReadVar, ReadCell, ReadStore, Write, Open as OpenIt, Close, Discard, Clear, If', Loop', Break, Continue}
use Rattle.tapa_base.specs.declared.token.Token.TheVariants.{Datum, Eot as EotToken}
use Rattle.kahn_model.specs.declared.tick.Action.TheVariants.{Local, Put, Load, Store}
use Rattle.kahn_model.specs.declared.tick.StreamOperation.{StreamOperation}
use Rattle.kahn_model.specs.declared.tick.StreamOperation.TheVariants.{Read as ByRead, Peek as ByPeek, TestEot, Open as ByOpen}
use Rattle.kahn_model.specs.Behavior.{Behavior, Finished, Act, Await}
use Rattle.kahn_model.specs.Trace.{State, at_zero, cell, with_cell, set_var, set_cell, store_cell, cells_of, cleared, expr, locals, turns, stmt, block, statements, job_of}
use Rattle.hw_network_laws.specs.network.Parts.{AgreeOn}

-- rows after a write
set_here : {A : Type 0} (xs ys : List A) (a : ℕ) (r d : A) → length xs ≡ length ys → slice_index_or (slice_set xs a r) a d ≡ slice_index_or (slice_set ys a r) a d
set_here [] [] a r d e = refl
set_here [] (y ∷ ys) a r d e = absurd (omega arith)
set_here (x ∷ xs) [] a r d e = absurd (omega arith)
set_here (x ∷ xs) (y ∷ ys) zero r d e = refl
set_here (x ∷ xs) (y ∷ ys) (suc a) r d e = set_here xs ys a r d (omega arith)

set_there : {A B : Type 0} (φ : A → B) (xs ys : List A) (a b : ℕ) (r d : A) → length xs ≡ length ys → φ (slice_index_or xs b d) ≡ φ (slice_index_or ys b d) → φ (slice_index_or (slice_set xs a r) b d) ≡ φ (slice_index_or (slice_set ys a r) b d)
set_there φ [] [] a b r d e s = refl
set_there φ [] (y ∷ ys) a b r d e s = absurd (omega arith)
set_there φ (x ∷ xs) [] a b r d e s = absurd (omega arith)
set_there φ (x ∷ xs) (y ∷ ys) zero zero r d e s = refl
set_there φ (x ∷ xs) (y ∷ ys) zero (suc b) r d e s = s
set_there φ (x ∷ xs) (y ∷ ys) (suc a) zero r d e s = s
set_there φ (x ∷ xs) (y ∷ ys) (suc a) (suc b) r d e s = set_there φ xs ys a b r d (omega arith) s

-- what keeps two states alike
agree_var : (S : List ℕ) (σ τ : State) (x v : ℕ) → AgreeOn S σ τ → AgreeOn S (set_var σ x v) (set_var τ x v)
agree_var S σ τ x v g = record { vars = ap (λ l. slice_set l x v) g.vars; cells = g.cells; arrays = g.arrays; sizes = g.sizes; same = g.same }

agree_store : (S : List ℕ) (σ τ : State) (m j v : ℕ) → AgreeOn S σ τ → AgreeOn S (store_cell σ m j v) (store_cell τ m j v)
agree_store S σ τ m j v g = record { vars = g.vars; cells = ap (λ c. with_cell c m j v) g.cells; arrays = g.arrays; sizes = g.sizes; same = g.same }

agree_cell : (S : List ℕ) (σ τ : State) (a j v : ℕ) → In a S → AgreeOn S σ τ → AgreeOn S (set_cell σ a j v) (set_cell τ a j v)
agree_cell S σ τ a j v i g =
    let r = slice_set (slice_index_or σ.arrays a []) j v in
    let q : r ≡ slice_set (slice_index_or τ.arrays a []) j v = ap (λ l. slice_set l j v) (g.same a i) in
    record {
      vars = g.vars;
      cells = g.cells;
      arrays = length-set σ.arrays a r ∙ g.arrays ∙ sym (length-set τ.arrays a (slice_set (slice_index_or τ.arrays a []) j v));
      sizes = λ b. set_there (λ (l : List ℕ). length l) σ.arrays τ.arrays a b r [] g.arrays (g.sizes b) ∙ ap (λ z. length (slice_index_or (slice_set τ.arrays a z) b [])) q;
      same = λ b k. set_there (λ (l : List ℕ). l) σ.arrays τ.arrays a b r [] g.arrays (g.same b k) ∙ ap (λ z. slice_index_or (slice_set τ.arrays a z) b []) q;
    }

agree_clear : (S : List ℕ) (σ τ : State) (a : ℕ) → AgreeOn S σ τ → AgreeOn (a ∷ S) (cleared σ a) (cleared τ a)
agree_clear S σ τ a g =
    let r = replicate (cells_of σ a) 0 in
    let q : r ≡ replicate (cells_of τ a) 0 = ap (λ n. replicate n 0) (g.sizes a) in
    record {
      vars = g.vars;
      cells = g.cells;
      arrays = length-set σ.arrays a r ∙ g.arrays ∙ sym (length-set τ.arrays a (replicate (cells_of τ a) 0));
      sizes = λ b. set_there (λ (l : List ℕ). length l) σ.arrays τ.arrays a b r [] g.arrays (g.sizes b) ∙ ap (λ z. length (slice_index_or (slice_set τ.arrays a z) b [])) q;
      same = λ b k.
          ⊎_elim
          (λ (e : b ≡ a). subst (λ c. slice_index_or (slice_set σ.arrays a r) c [] ≡ slice_index_or (slice_set τ.arrays a r) c []) (sym e) (set_here σ.arrays τ.arrays a r [] g.arrays))
          (λ (i : In b S). set_there (λ (l : List ℕ). l) σ.arrays τ.arrays a b r [] g.arrays (g.same b i))
          k
          ∙ ap (λ z. slice_index_or (slice_set τ.arrays a z) b []) q;
    }

agree_less : (S : List ℕ) (s : Stmt) (σ τ : State) → AgreeOn (cleared_by s S) σ τ → AgreeOn S σ τ
agree_less S (Clear a) σ τ g = record { vars = g.vars; cells = g.cells; arrays = g.arrays; sizes = g.sizes; same = λ b i. g.same b (inr i) }
agree_less S _ σ τ g = g

same_await : (s : ℕ) (how : StreamOperation) (f g : ℕ → Behavior) → ((v : ℕ) → f v ≡ g v) → Await s how f ≡ Await s how g
same_await s how f g e = ap (Await s how) (fun_ext e)

same_zero : (v : ℕ) (a b a' b' : Behavior) → a ≡ a' → b ≡ b' → at_zero v a b ≡ at_zero v a' b'
same_zero zero a b a' b' e f = e
same_zero (suc v) a b a' b' e f = f

-- an expression
same_expr : (c : ℕ) (S : List ℕ) (e : Expr) (σ τ : State) (f g : ℕ → Behavior) → FitsExpr c S e → AgreeOn S σ τ → ((v : ℕ) → f v ≡ g v) → expr e σ f ≡ expr e τ g
same_expr c S (Lit kind n) σ τ f g u a h = h n
same_expr c S (Var x) σ τ f g u a h = ap (λ l. f (slice_index l x)) a.vars ∙ h _
same_expr c S (Cell' r p e) σ τ f g (i, u) a h =
    same_expr c S e σ τ _ _ u a (λ j. ap (λ l. f (slice_index l j)) (a.same r i) ∙ h _)
same_expr c S (Read s) σ τ f g u a h = same_await s ByRead f g h
same_expr c S (Peek s) σ τ f g u a h = same_await s ByPeek f g h
same_expr c S (Eot s) σ τ f g u a h = same_await s TestEot f g h
same_expr c S (LoadCell m p e) σ τ f g u a h =
    same_expr c S e σ τ _ _ u a (λ j. ap (λ l. Act (Load m j) (f (cell l m j))) a.cells ∙ ap (Act (Load m j)) (h _))
same_expr c S (Conv' source target p e) σ τ f g u a h = same_expr c S e σ τ _ _ u a (λ v. h _)
same_expr c S (Apply' op kind p l q r) σ τ f g (ul, ur) a h = same_expr c S l σ τ _ _ ul a (λ v. same_expr c S r σ τ _ _ ur a (λ w. h _))
same_expr c S (Flip' kind p e) σ τ f g u a h = same_expr c S e σ τ _ _ u a (λ v. h _)
same_expr c S (Not' p e) σ τ f g u a h = same_expr c S e σ τ _ _ u a (λ v. h _)
same_expr c S (And' p l q r) σ τ f g (ul, ur) a h = same_expr c S l σ τ _ _ ul a (λ v. same_expr c S r σ τ _ _ ur a (λ w. h _))
same_expr c S (Or' p l q r) σ τ f g (ul, ur) a h = same_expr c S l σ τ _ _ ul a (λ v. same_expr c S r σ τ _ _ ur a (λ w. h _))
same_expr c S (Choose' p e q l o r) σ τ f g (ue, ul, ur) a h =
    same_expr c S e σ τ _ _ ue a (λ v. same_expr c S l σ τ _ _ ul a (λ x. same_expr c S r σ τ _ _ ur a (λ y. h _)))

-- what goes on from states that agree is one behavior
abbrev Same : List ℕ → (State → Behavior) → (State → Behavior) → Type 0
Same S f g = (σ τ : State) → AgreeOn S σ τ → f σ ≡ g τ

same_turns : (c : ℕ) (S : List ℕ) (n : ℕ) (e : Expr) (b b' : State → (State → Behavior) → Behavior) (f g : State → Behavior) → FitsExpr c S e → ((x y : State → Behavior) → Same S x y → (σ τ : State) → AgreeOn S σ τ → b σ x ≡ b' τ y) → Same S f g → Same S (turns n (expr e) b f) (turns n (expr e) b' g)
same_turns c S zero e b b' f g u hb h σ τ a = refl
same_turns c S (suc n) e b b' f g u hb h σ τ a =
    same_expr c S e σ τ _ _ u a (λ v. ap (Act Local) (same_zero v (f σ) _ (g τ) _ (h σ τ a) (hb _ _ (same_turns c S n e b b' f g u hb h) σ τ a)))

mutual
  same_stmt : (K : Kinds) (n c d : ℕ) (S : List ℕ) (s : Stmt) → FitsStmt c d S s → (f g fo go fa ga : State → Behavior) → Same (cleared_by s S) f g → Same S fo go → Same S fa ga → (σ τ : State) → AgreeOn S σ τ → stmt K n s σ f fo fa ≡ stmt K n s τ g go ga
  same_stmt K n c d S (Set x e) (l, u) f g fo go fa ga h ho ha σ τ a = same_expr c S e σ τ _ _ u a (λ v. ap (Act Local) (h _ _ (agree_var S σ τ x v a)))
  same_stmt K n c d S (SetCell r i e) (l, ui, ue) f g fo go fa ga h ho ha σ τ a =
      same_expr c S e σ τ _ _ ue a (λ v. same_expr c S i σ τ _ _ ui a (λ j. ap (Act Local) (h _ _ (agree_cell S σ τ r j v l a))))
  same_stmt K n c d S (SetCellBy r i op kind e) (l, ui, ue) f g fo go fa ga h ho ha σ τ a =
      same_expr c S e σ τ _ _ ue a (λ v. same_expr c S i σ τ _ _ ui a (λ j.
      ap (λ z. Act Local (f (set_cell σ r j (converted kind (K.arrays r) (applied op kind (converted (K.arrays r) kind (slice_index z j)) v))))) (a.same r l)
      ∙ ap (Act Local) (h _ _ (agree_cell S σ τ r j (converted kind (K.arrays r) (applied op kind (converted (K.arrays r) kind (cell τ.arrays r j)) v)) l a))))
  same_stmt K n c d S (StoreCell m i e) (ui, ue) f g fo go fa ga h ho ha σ τ a =
      same_expr c S e σ τ _ _ ue a (λ v. same_expr c S i σ τ _ _ ui a (λ j. ap (Act (Store m j v)) (h _ _ (agree_store S σ τ m j v a))))
  same_stmt K n c d S (StoreBy m i op kind e) (ui, ue) f g fo go fa ga h ho ha σ τ a =
      same_expr c S e σ τ _ _ ue a (λ v. same_expr c S i σ τ _ _ ui a (λ j.
      ap (λ z. Act (Load m j) (Act (Store m j (converted kind (K.memories m) (applied op kind (converted (K.memories m) kind (cell z m j)) v))) (f (store_cell σ m j (converted kind (K.memories m) (applied op kind (converted (K.memories m) kind (cell z m j)) v)))))) a.cells
      ∙ ap (λ z. Act (Load m j) (Act (Store m j (converted kind (K.memories m) (applied op kind (converted (K.memories m) kind (cell τ.cells m j)) v))) z)) (h _ _ (agree_store S σ τ m j (converted kind (K.memories m) (applied op kind (converted (K.memories m) kind (cell τ.cells m j)) v)) a))))
  same_stmt K n c d S (ReadVar s x) u f g fo go fa ga h ho ha σ τ a = same_await s ByRead _ _ (λ v. ap (Act Local) (h _ _ (agree_var S σ τ x _ a)))
  same_stmt K n c d S (ReadCell s r i) (l, ui) f g fo go fa ga h ho ha σ τ a =
      same_expr c S i σ τ _ _ ui a (λ j. same_await s ByRead _ _ (λ v. ap (Act Local) (h _ _ (agree_cell S σ τ r j _ l a))))
  same_stmt K n c d S (ReadStore s m i) ui f g fo go fa ga h ho ha σ τ a =
      same_expr c S i σ τ _ _ ui a (λ j. same_await s ByRead _ _ (λ v. ap (Act (Store m j (converted (K.streams s) (K.memories m) v))) (h _ _ (agree_store S σ τ m j _ a))))
  same_stmt K n c d S (Write s e) u f g fo go fa ga h ho ha σ τ a = same_expr c S e σ τ _ _ u a (λ v. ap (Act (Put s (Datum v))) (h σ τ a))
  same_stmt K n c d S (OpenIt s) u f g fo go fa ga h ho ha σ τ a = same_await s ByOpen _ _ (λ v. h σ τ a)
  same_stmt K n c d S (Close s) u f g fo go fa ga h ho ha σ τ a = ap (Act (Put s EotToken)) (h σ τ a)
  same_stmt K n c d S (Discard e) u f g fo go fa ga h ho ha σ τ a = same_expr c S e σ τ _ _ u a (λ v. h σ τ a)
  same_stmt K n c d S (Clear r) u f g fo go fa ga h ho ha σ τ a =
      ap (λ k. locals k (f (cleared σ r))) (a.sizes r) ∙ ap (locals (cells_of τ r)) (h _ _ (agree_clear S σ τ r a))
  same_stmt K n c d S (If' e p left q right) (ue, ul, ur) f g fo go fa ga h ho ha σ τ a =
      same_expr c S e σ τ _ _ ue a (λ v. ap (Act Local) (same_zero v _ _ _ _ (same_block K n c d S right ur f g fo go fa ga h ho ha σ τ a) (same_block K n c d S left ul f g fo go fa ga h ho ha σ τ a)))
  same_stmt K n c d S (Loop' e p body q step) (ue, ub, us) f g fo go fa ga h ho ha σ τ a =
      same_turns c S n e _ _ f g ue (λ x y hx σ' τ' a'. let hs : Same S (λ s. block K n step s x f x) (λ s. block K n step s y g y) = same_block K n c d S step us x y f g x y hx h hx in same_block K n c d S body ub _ _ f g _ _ hs h hs σ' τ' a') h σ τ a
  same_stmt K n c d S Break u f g fo go fa ga h ho ha σ τ a = ho σ τ a
  same_stmt K n c d S Continue u f g fo go fa ga h ho ha σ τ a = ha σ τ a

  same_block : {l : _} → (K : Kinds) (n c d : ℕ) (S : List ℕ) (b : Row_of-Stmt l) → FitsBlock c d S b → (f g fo go fa ga : State → Behavior) → Same S f g → Same S fo go → Same S fa ga → (σ τ : State) → AgreeOn S σ τ → block K n b σ f fo fa ≡ block K n b τ g go ga
  same_block K n c d S end_of-Stmt u f g fo go fa ga h ho ha σ τ a = h σ τ a
  same_block K n c d S (more_of-Stmt s rest) (us, ur) f g fo go fa ga h ho ha σ τ a =
      same_stmt K n c d S s us _ _ fo go fa ga
      (same_block K n c d (cleared_by s S) rest ur f g fo go fa ga (λ x y b. h x y (agree_less S s x y b)) (λ x y b. ho x y (agree_less S s x y b)) (λ x y b. ha x y (agree_less S s x y b)))
      ho ha σ τ a

finished : (S : List ℕ) → Same S (λ σ. Finished) (λ σ. Finished)
finished S σ τ a = refl

same_statements : (K : Kinds) (n c d : ℕ) (S : List ℕ) (code : List Stmt) → FitsCode c d S code → (σ τ : State) → AgreeOn S σ τ → statements K n code σ (λ σ. Finished) (λ σ. Finished) (λ σ. Finished) ≡ statements K n code τ (λ σ. Finished) (λ σ. Finished) (λ σ. Finished)
same_statements K n c d S [] u σ τ a = refl
same_statements K n c d S (s ∷ rest) (j, us, ur) σ τ a =
    same_stmt K n c d S s us _ _ _ _ _ _ (same_statements K n c d (cleared_by s S) rest ur) (finished S) (finished S) σ τ a

pub first_arrays : (leaf : Leaf) → IsLeaf leaf → (σ τ : State) → AgreeOn [] σ τ → (n : ℕ) → job_of (kinds_of leaf) leaf.code.items σ n ≡ job_of (kinds_of leaf) leaf.code.items τ n
first_arrays leaf is σ τ a n = same_statements (kinds_of leaf) n (length leaf.vars.items) (length leaf.arrays.items) [] leaf.code.items is.fits σ τ a
