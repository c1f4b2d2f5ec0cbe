-- The machine of a body.
use Rattle.std.proofs.Common.{◌≡◌, ℕ, ◌+◌, ◌-◌, ◌<◌, ◌≤◌, List, [], ◌∷◌, ◌++◌, length, get_or, Some, None, refl, sym, ap, ◌∙◌, subst, arith, length-append}
use Rattle.std.specs.Prelude.{slice_get, replicate, map, reverse}
use Rattle.std.proofs.lemmas.List.{get_or_append_left, get_or-append-add, reverse-append, map-append, length-replicate, get_or-replicate}
use Rattle.kahn_model.specs.Prefix.{IsPrefixOf}
use Rattle.tapa_base.specs.declared.kind.Kind.{Kind}
use Rattle.tapa_base.specs.declared.kind.Kind.TheVariants.{U32}
use Rattle.task_fsm.specs.declared.machine.Fsm.{Fsm}
use Rattle.tapa_syntax.specs.declared.program.Expr.{Expr}
use Rattle.tapa_syntax.specs.declared.program.Expr.TheVariants.{Lit, Var, Cell', Read, Peek, Eot, Load', Conv', Apply', Flip', Not', And', Or', Choose'}
use Rattle.tapa_syntax.specs.declared.program.Stmt.{Stmt}
use Rattle.tapa_syntax.specs.declared.program.Stmt.TheVariants.{Set, SetCell, SetCellBy, Store, StoreBy, ReadVar, ReadCell, ReadStore, Write, Open, Close, Discard, Clear, If', Loop', Break, Continue}
use Rattle.tapa_syntax.specs.declared.program.Leaf.{Leaf}
use Rattle.kahn_model.specs.Behavior.{Behavior, Finished}
use Rattle.kahn_model.specs.Trace.{State, statements, job_of}
use Rattle.tapa_syntax.specs.LeafKinds.{Kinds, kinds_of}
use Rattle.task_fsm.specs.Follows.{Follows}
use Rattle.task_fsm.specs.Machine.{forms_of, StateForm, SetAt, CellAt, ReadAt, WriteAt, PeekAt, EotAt, OpenAt, CloseAt, LoadAt, StoreAt, ClearAt, EndAt, TrapAt, Converted, CellOf, Reg}
use Rattle.task_fsm.specs.Run.{trap_of, IsMachineOf}
use Rattle.tapa_syntax.specs.WellFormed.{IsLeaf}
use Rattle.tapa_syntax.specs.ArrayUse.{IsNoJump, FitsCode, cleared_by}
use Rattle.task_fsm.specs.Code.{Emitted, emit, going_to, residual, discarded, old_with, stmt_code, block_code, list_code, last_code, leaf_code}
use Rattle.tapa_syntax.specs.TickPlaces.{operation_count, size_of, size_of_block, size_of_list}
use Rattle.task_fsm.specs.Lowered.{IsStart, with_temporaries}
use Rattle.task_fsm.proofs.Grows.{front_trans, IsTail, tail_trans, Grows, grows_trans, grows_none, grows_stmt, IsFirst, first_put, first_hold, first_ops, first_test, stands}
use Rattle.task_fsm.proofs.Simulates.{Holds}
use Rattle.task_fsm.proofs.Executes.{Goes, goes_more, sub_more, f_stmt}
use Rattle.task_fsm.proofs.Runs.{runs}

pub grows_list : (K : Kinds) (N c : ℕ) (l : List Stmt) (out again : ℕ) (B : Emitted) → Grows (size_of_list l) B (list_code K N c l out again B)
grows_list K N c [] out again B = grows_none B.entry B
grows_list K N c (s ∷ rest) out again B =
    grows_trans (size_of_list rest) (size_of s) (size_of_list rest + size_of s) B _ _ refl (grows_list K N c rest out again B) (grows_stmt K N c s out again (list_code K N c rest out again B))

first_alone : (K : Kinds) (N : ℕ) (e : Expr) (B : Emitted) → IsFirst N B → IsFirst N (discarded K N e B)
first_alone K N (Read s) B h = first_put N (λ next. ReadAt s None next) B
first_alone K N (Peek s) B h = first_put N (λ next. PeekAt s None next) B
first_alone K N (Eot s) B h = first_put N (λ next. EotAt s None next) B
first_alone K N (Load' m p e) B h =
    first_ops K N e (emit N (λ next. LoadAt m (residual e (length B.regs)) None next) B) (first_put N (λ next. LoadAt m (residual e (length B.regs)) None next) B)
first_alone K N (Lit kind n) B h = first_ops K N (Lit kind n) B h
first_alone K N (Var x) B h = first_ops K N (Var x) B h
first_alone K N (Cell' a p e) B h = first_ops K N (Cell' a p e) B h
first_alone K N (Conv' source target p e) B h = first_ops K N (Conv' source target p e) B h
first_alone K N (Apply' op kind p l q r) B h = first_ops K N (Apply' op kind p l q r) B h
first_alone K N (Flip' kind p e) B h = first_ops K N (Flip' kind p e) B h
first_alone K N (Not' p e) B h = first_ops K N (Not' p e) B h
first_alone K N (And' p l q r) B h = first_ops K N (And' p l q r) B h
first_alone K N (Or' p l q r) B h = first_ops K N (Or' p l q r) B h
first_alone K N (Choose' p e q a r b) B h = first_ops K N (Choose' p e q a r b) B h

first_stmt : (K : Kinds) (N c : ℕ) (s : Stmt) (out again : ℕ) (B : Emitted) → IsNoJump s → IsFirst N B → IsFirst N (stmt_code K N c s out again B)
first_stmt K N c (Set x e) out again B j h = first_ops K N e _ (first_put N (λ next. SetAt x (residual e (length B.regs)) next) B)
first_stmt K N c (SetCell a i e) out again B j h =
    first_ops K N e _ (first_ops K N i _ (first_put N (λ next. CellAt a (residual i (length B.regs)) (residual e (length B.regs + operation_count i)) next) B))
first_stmt K N c (SetCellBy a i op kind e) out again B j h =
    first_ops K N e _ (first_ops K N i _ (first_put N (λ next. CellAt a (residual i (length B.regs)) (old_with op kind (K.arrays a) (CellOf a (residual i (length B.regs))) (residual e (length B.regs + operation_count i))) next) B))
first_stmt K N c (Store m i e) out again B j h =
    first_ops K N e _ (first_ops K N i _ (first_put N (λ next. StoreAt m (residual i (length B.regs)) (residual e (length B.regs + operation_count i)) next) B))
first_stmt K N c (StoreBy m i op kind e) out again B j h =
    let p = λ (next : ℕ). StoreAt m (residual i (length B.regs + 1)) (old_with op kind (K.memories m) (Reg (length B.regs)) (residual e (length B.regs + 1 + operation_count i))) next in
    first_ops K N e _ (first_ops K N i _ (first_hold N (K.memories m) (λ t next. LoadAt m (residual i (t + 1)) (Some t) next) (emit N p B)))
first_stmt K N c (ReadVar s x) out again B j h =
    first_hold N (K.streams s) (λ t next. ReadAt s (Some t) next) (emit N (λ next. SetAt x (Converted (K.streams s) (K.vars x) (Reg (length B.regs))) next) B)
first_stmt K N c (ReadCell s a i) out again B j h =
    first_ops K N i _ (first_hold N (K.streams s) (λ t next. ReadAt s (Some t) next) (emit N (λ next. CellAt a (residual i (length B.regs + 1)) (Converted (K.streams s) (K.arrays a) (Reg (length B.regs))) next) B))
first_stmt K N c (ReadStore s m i) out again B j h =
    first_ops K N i _ (first_hold N (K.streams s) (λ t next. ReadAt s (Some t) next) (emit N (λ next. StoreAt m (residual i (length B.regs + 1)) (Converted (K.streams s) (K.memories m) (Reg (length B.regs))) next) B))
first_stmt K N c (Write s e) out again B j h = first_ops K N e _ (first_put N (λ next. WriteAt s (residual e (length B.regs)) next) B)
first_stmt K N c (Open s) out again B j h = first_put N (λ next. OpenAt s next) B
first_stmt K N c (Close s) out again B j h = first_put N (λ next. CloseAt s next) B
first_stmt K N c (Discard e) out again B j h = first_alone K N e B h
first_stmt K N c (Clear a) out again B j h = first_put N (λ next. ClearAt a c next) B
first_stmt K N c (If' e p left q right) out again B j h =
    let R = block_code K N c right out again B in
    first_test K N e R.entry (block_code K N c left out again (going_to B.entry R))
first_stmt K N c (Loop' e p body q step) out again B j h =
    let head = N - (length B.places + (size_of_block step + size_of_block body + (1 + operation_count e))) in
    let S = block_code K N c step B.entry head (going_to head B) in
    first_test K N e B.entry (block_code K N c body B.entry S.entry S)
first_stmt K N c Break out again B j h = absurd j
first_stmt K N c Continue out again B j h = absurd j

first_list : (K : Kinds) (N c v n : ℕ) (S : List ℕ) (l : List Stmt) (out again : ℕ) (B : Emitted) → FitsCode v n S l → IsFirst N B → IsFirst N (list_code K N c l out again B)
first_list K N c v n S [] out again B f h = h
first_list K N c v n S (s ∷ rest) out again B f h =
    first_stmt K N c s out again (list_code K N c rest out again B) f.0 (first_list K N c v n (cleared_by s S) rest out again B f.2 h)

module _ (K : Kinds) (P : List StateForm) (c size n : ℕ) where
  f_list : (fuel : ℕ) (l : List Stmt) (S : List ℕ) (out again : ℕ) (B : Emitted) → IsTail (list_code K (length P) c l out again B).places P → length (list_code K (length P) c l out again B).regs ≤ size → c < length B.regs → FitsCode c n S l → (go o a : State → Behavior) → Goes K P c size n S B.entry go → Goes K P c size n S out o → Goes K P c size n S again a → Goes K P c size n S (list_code K (length P) c l out again B).entry (λ σ. statements K fuel l σ go o a)
  f_list fuel [] S out again B tail room lt f go o a hg ho ha σ τ T sub h = hg σ τ T sub h
  f_list fuel (s ∷ rest) S out again B tail room lt f go o a hg ho ha σ τ T sub h =
      let N = length P in
      let C = list_code K N c rest out again B in
      let gr = grows_list K N c rest out again B in
      let gs = grows_stmt K N c s out again C in
      let r1 = gr.regs in let r2 = gs.regs in
      let tail1 = tail_trans C.places (stmt_code K N c s out again C).places P gs.tail tail in
      let S' = cleared_by s S in
      let more = sub_more S s in
      f_stmt K P c size n fuel s S out again C tail room (omega arith) f.1 (λ σ'. statements K fuel rest σ' go o a) o a
      (f_list fuel rest S' out again B tail1 (omega arith) lt f.2 go o a (goes_more K P c size n S S' B.entry go more hg) (goes_more K P c size n S S' out o more ho) (goes_more K P c size n S S' again a more ha)) ho ha σ τ T sub h

-- the registers after the variables are 0
starts : (leaf : Leaf) (σ : State) (k : ℕ) → 1 ≤ k → IsStart leaf σ → Holds (length leaf.vars.items) (length leaf.vars.items + k) (length leaf.arrays.items) σ (with_temporaries k σ)
starts leaf σ k l s =
    let lv = s.vars in
    let e : length leaf.vars.items ≡ length σ.vars + 0 = omega arith in
    record {
      same = λ x lx. get_or_append_left σ.vars (replicate k 0) 0 x (omega arith);
      counter = ap (λ x. get_or (σ.vars ++ replicate k 0) x 0) e ∙ get_or-append-add σ.vars (replicate k 0) 0 0 ∙ get_or-replicate k 0 0 0 (omega arith);
      long = s.vars;
      room = length-append σ.vars (replicate k 0) ∙ (let lr = length-replicate {A = ℕ} k 0 in omega arith);
      arrays = refl;
      cells = refl;
      many = s.arrays;
      full = s.cells;
    }

pub size_leaf : (leaf : Leaf) → length (leaf_code leaf).places ≡ size_of_list leaf.code.items + 2
size_leaf leaf =
    let z = size_of_list leaf.code.items in
    let g = grows_list (kinds_of leaf) (z + 2) (length leaf.vars.items) leaf.code.items z z (last_code (z + 2) leaf) in
    let gz = g.size in
    omega arith

pub entry_leaf : (leaf : Leaf) → IsLeaf leaf → (leaf_code leaf).entry ≡ 0
entry_leaf leaf f =
    let z = size_of_list leaf.code.items in
    let h = first_list (kinds_of leaf) (z + 2) (length leaf.vars.items) (length leaf.vars.items) (length leaf.arrays.items) [] leaf.code.items z z (last_code (z + 2) leaf) f.fits (record { is = refl }) in
    let e = size_leaf leaf in
    h.is ∙ omega arith

pub trap_leaf : (leaf : Leaf) → slice_get (leaf_code leaf).places (trap_of (leaf_code leaf).places) ≡ Some TrapAt
trap_leaf leaf =
    let z = size_of_list leaf.code.items in
    let P = (leaf_code leaf).places in
    let g = grows_list (kinds_of leaf) (z + 2) (length leaf.vars.items) leaf.code.items z z (last_code (z + 2) leaf) in
    stands TrapAt [] P (tail_trans (TrapAt ∷ []) (EndAt ∷ TrapAt ∷ []) P (record { before = EndAt ∷ []; joins = refl }) g.tail)

pub leaf_follows : (leaf : Leaf) (σ : State) → IsLeaf leaf → IsStart leaf σ → (fuel : ℕ) → Follows (leaf_code leaf).places [] (job_of (kinds_of leaf) leaf.code.items σ fuel) 0 (with_temporaries (length (leaf_code leaf).regs - length leaf.vars.items) σ)
leaf_follows leaf σ f start fuel =
    let K = kinds_of leaf in
    let c = length leaf.vars.items in
    let n = length leaf.arrays.items in
    let code = leaf.code.items in
    let z = size_of_list code in
    let W = leaf_code leaf in
    let P = W.places in
    let size = length W.regs in
    let job = job_of K code σ fuel in
    let e : length P ≡ z + 2 = size_leaf leaf in
    let g = grows_list K (z + 2) c code z z (last_code (z + 2) leaf) in
    let gr = g.regs in
    let lb : length (last_code (z + 2) leaf).regs ≡ c + 1 = omega (arith, length-append leaf.vars.items (U32 ∷ [])) in
    let τ = with_temporaries (size - c) σ in
    let holds0 = starts leaf σ (size - c) (omega arith) start in
    let es : c + (size - c) ≡ size = omega arith in
    let holds = subst (λ k. Holds c k n σ τ) es holds0 in
    let ends : Goes K P c size n [] (length P - 2) (λ σ'. Finished) = λ σ1 τ1 T sub h. stands EndAt (TrapAt ∷ []) P g.tail in
    let out : Goes K P c size n [] z (λ σ'. Finished) = let ez : length P - 2 ≡ z = omega arith in subst (λ k. Goes K P c size n [] k (λ σ'. Finished)) ez ends in
    let tail : IsTail (list_code K (length P) c code z z (last_code (length P) leaf)).places P =
    subst (λ k. IsTail (list_code K k c code z z (last_code k leaf)).places P) (sym e) (record { before = []; joins = refl }) in
    let room : length (list_code K (length P) c code z z (last_code (length P) leaf)).regs ≤ size =
    subst (λ k. length (list_code K k c code z z (last_code k leaf)).regs ≤ size) (sym e) (omega arith) in
    let follows1 = f_list K P c size n fuel code [] z z (last_code (length P) leaf) tail room (omega arith) f.fits (λ σ'. Finished) (λ σ'. Finished) (λ σ'. Finished) ends out out σ τ [] (λ a h. h) holds in
    let follows2 = subst (λ k. Follows P [] job (list_code K k c code z z (last_code k leaf)).entry τ) e follows1 in
    subst (λ k. Follows P [] job k τ) (entry_leaf leaf f) follows2

pub front_is : (xs ys : List Kind) → IsPrefixOf xs (xs ++ ys)
front_is [] ys = tt
front_is (x ∷ xs) ys = (refl, front_is xs ys)

pub front_leaf : (leaf : Leaf) → IsPrefixOf leaf.vars.items (leaf_code leaf).regs
front_leaf leaf =
    let z = size_of_list leaf.code.items in
    let g = grows_list (kinds_of leaf) (z + 2) (length leaf.vars.items) leaf.code.items z z (last_code (z + 2) leaf) in
    let f = front_trans leaf.vars.items (leaf.vars.items ++ U32 ∷ []) (leaf_code leaf).regs (record { after = U32 ∷ []; joins = refl }) g.front in
    subst (λ l. IsPrefixOf leaf.vars.items l) (sym f.joins) (front_is leaf.vars.items f.after)

pub follows_at : (leaf : Leaf) (fsm : Fsm) → IsLeaf leaf → forms_of fsm.states.items ≡ (leaf_code leaf).places → fsm.regs.items ≡ (leaf_code leaf).regs → (σ : State) → IsStart leaf σ → (n : ℕ) → Follows (forms_of fsm.states.items) [] (job_of (kinds_of leaf) leaf.code.items σ n) 0 (with_temporaries (length fsm.regs.items - length leaf.vars.items) σ)
follows_at leaf fsm fits p r σ start n =
    subst (λ P. Follows P [] (job_of (kinds_of leaf) leaf.code.items σ n) 0 (with_temporaries (length fsm.regs.items - length leaf.vars.items) σ)) (sym p)
    (subst (λ l. Follows (leaf_code leaf).places [] (job_of (kinds_of leaf) leaf.code.items σ n) 0 (with_temporaries (length l - length leaf.vars.items) σ)) (sym r) (leaf_follows leaf σ fits start n))

pub machine_at : (leaf : Leaf) (fsm : Fsm) → IsLeaf leaf → forms_of fsm.states.items ≡ (leaf_code leaf).places → fsm.regs.items ≡ (leaf_code leaf).regs → (σ : State) → IsStart leaf σ → IsMachineOf (λ n. job_of (kinds_of leaf) leaf.code.items σ n) (forms_of fsm.states.items) (with_temporaries (length fsm.regs.items - length leaf.vars.items) σ)
machine_at leaf fsm fits p r σ start n ins =
    runs (forms_of fsm.states.items) (job_of (kinds_of leaf) leaf.code.items σ n) [] 0 (with_temporaries (length fsm.regs.items - length leaf.vars.items) σ) ins (follows_at leaf fsm fits p r σ start n)

-- a machine with these places and registers
-- what was emitted of a body
pub leaf_written : (leaf : Leaf) (code : List Stmt) (size total counter : ℕ) (B w : Emitted) → code ≡ leaf.code.items → size ≡ size_of_list code → total ≡ size + 2 → counter ≡ length leaf.vars.items → B ≡ record { places = EndAt ∷ TrapAt ∷ []; entry = size; regs = leaf.vars.items ++ U32 ∷ [] } → w ≡ list_code (kinds_of leaf) total counter code size size B → w ≡ leaf_code leaf
leaf_written leaf code size total counter B w ec es et en eb ew =
    let z = size_of_list leaf.code.items in
    let s : size ≡ z = es ∙ ap size_of_list ec in
    let t : total ≡ z + 2 = et ∙ ap (λ x. x + 2) s in
    let m : size ≡ z + 2 - 2 = omega arith in
    let b : B ≡ last_code (z + 2) leaf = eb ∙ ap (λ x. record { places = EndAt ∷ TrapAt ∷ []; entry = x; regs = leaf.vars.items ++ U32 ∷ [] }) m in
    ew
    ∙ ap (λ x. list_code (kinds_of leaf) x counter code size size B) t
    ∙ ap (λ x. list_code (kinds_of leaf) (z + 2) x code size size B) en
    ∙ ap (λ x. list_code (kinds_of leaf) (z + 2) (length leaf.vars.items) x size size B) ec
    ∙ ap (λ x. list_code (kinds_of leaf) (z + 2) (length leaf.vars.items) leaf.code.items x x B) s
    ∙ ap (λ x. list_code (kinds_of leaf) (z + 2) (length leaf.vars.items) leaf.code.items z z x) b

pub map_reverse : {A B : Type 0} (f : A → B) (l : List A) → map f (reverse l) ≡ reverse (map f l)
map_reverse f [] = refl
map_reverse f (x ∷ xs) =
    ap (map f) (reverse-append (x ∷ []) xs)
    ∙ map-append f (reverse xs) (x ∷ [])
    ∙ ap (λ l. l ++ f x ∷ []) (map_reverse f xs)
    ∙ sym (reverse-append (f x ∷ []) (map f xs))
