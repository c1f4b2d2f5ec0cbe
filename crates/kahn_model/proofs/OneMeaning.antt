-- The network of a program is a function of its plain data: the trace of plain data, and that of a program in memory is
-- the same.
use Rattle.std.proofs.Common.{◌≡◌, ℕ, zero, suc, ◌-◌, ◌*◌, ◌^◌, List, [], ◌∷◌, Bool, false, length, map, replicate, Option, Some, None, refl, sym, ap, ◌∙◌}
use Rattle.std.specs.Prelude.{slice_get, slice_index, slice_index_or, option_map, unwrap_or}
use Rattle.std.proofs.Math.Path.{fun_ext}
use Rattle.tapa_base.specs.declared.token.Token.TheVariants.{Datum, Eot as EotToken}
use Rattle.tapa_base.specs.declared.kind.Kind.{Kind}
use Rattle.tapa_base.specs.declared.kind.Kind.TheVariants.{U64}
use Rattle.tapa_base.specs.Kinds.{bits_of, converted}
use Rattle.tapa_base.specs.Operators.{applied}
use Rattle.tapa_syntax.specs.declared.program.Array.{Array}
use Rattle.tapa_syntax.specs.declared.program.Bound.{Bound}
use Rattle.tapa_syntax.specs.declared.program.Bound.TheVariants.{Number, Top}
use Rattle.tapa_syntax.specs.declared.program.End.{End}
use Rattle.tapa_syntax.specs.declared.program.Expr.{Expr}
use Rattle.tapa_syntax.specs.declared.program.Expr.TheVariants.{Lit, Var, Cell', Read, Peek, Eot, Load' as LoadCell, Conv', Apply', Flip', Not', And', Or', Choose'}
use Rattle.tapa_syntax.specs.declared.program.Instance.{Instance}
use Rattle.tapa_syntax.specs.declared.program.Leaf.{Leaf}
use Rattle.tapa_syntax.specs.declared.program.Program.{Program}
use Rattle.tapa_syntax.specs.declared.program.Scalar.{Scalar}
use Rattle.tapa_syntax.specs.declared.program.Stmt.{Stmt, Row_of-Stmt, end_of-Stmt, more_of-Stmt}
use Rattle.tapa_syntax.specs.declared.program.Stmt.TheVariants.{Set, SetCell, SetCellBy, Store as StoreCell, StoreBy, ReadVar, ReadCell, ReadStore, Write, Open as OpenIt, Close, Discard, Clear, If', Loop', Break, Continue}
use Rattle.tapa_syntax.specs.declared.program.Stream.{Stream}
use Rattle.tapa_syntax.specs.Flat as flat
use Rattle.tapa_syntax.specs.Flat.{FlatExpression, FlatStatement, FlatStatements, FlatLeaf, FlatBound, FlatInstance, FlatProgram, flat_expression, flat_statement, flat_row, flat_leaf, flat_bound, flat_instance, flat_program}
use Rattle.tapa_syntax.specs.LeafKinds.{Kinds, kinds_of}
use Rattle.kahn_model.specs.Behavior.{Local, Put, Load, Store, Read as ByRead, Peek as ByPeek, TestEot, Open as ByOpen, Behavior, Finished, Act, Await}
use Rattle.kahn_model.specs.Trace.{State, at_zero, cell, set_var, set_cell, store_cell, cells_of, cleared, expr, locals, turns, stmt, block, statements, at_streams}
use Rattle.kahn_model.specs.Network.{Network}
use Rattle.kahn_model.specs.ProgramNetwork.{stream_at, leaf_job, instance_job, is_detached, end_of, network_with}
use Rattle.kahn_model.specs.Start.{through, bound_value, with_values, empty_state, leaf_state, instance_state, first_state, network_of}

-- ---- the trace of plain data

abbrev expr_by : FlatExpression → State → (ℕ → Behavior) → Behavior
expr_by (flat.literal kind n) σ go = go n
expr_by (flat.variable x) σ go = go (slice_index σ.vars x)
expr_by (flat.cell a e) σ go = expr_by e σ (λ i. go (cell σ.arrays a i))
expr_by (flat.read s) σ go = Await s ByRead go
expr_by (flat.peek s) σ go = Await s ByPeek go
expr_by (flat.is_end s) σ go = Await s TestEot go
expr_by (flat.load m e) σ go = expr_by e σ (λ i. Act (Load m i) (go (cell σ.cells m i)))
expr_by (flat.convert from to e) σ go = expr_by e σ (λ v. go (converted from to v))
expr_by (flat.apply op kind l r) σ go = expr_by l σ (λ a. expr_by r σ (λ b. go (applied op kind a b)))
expr_by (flat.flip kind e) σ go = expr_by e σ (λ v. go (2 ^ bits_of kind - 1 - v))
expr_by (flat.negation e) σ go = expr_by e σ (λ v. go (1 - v))
expr_by (flat.conjunction l r) σ go = expr_by l σ (λ a. expr_by r σ (λ b. go (a * b)))
expr_by (flat.disjunction l r) σ go = expr_by l σ (λ a. expr_by r σ (λ b. go (1 - (1 - a) * (1 - b))))
expr_by (flat.choice e a b) σ go = expr_by e σ (λ v. expr_by a σ (λ x. expr_by b σ (λ y. go (at_zero v y x))))

abbrev mutual
  stmt_by : Kinds → ℕ → FlatStatement → State → (State → Behavior) → (State → Behavior) → (State → Behavior) → Behavior
  stmt_by K n (flat.set x e) σ go out again = expr_by e σ (λ v. Act Local (go (set_var σ x v)))
  stmt_by K n (flat.set_cell a i e) σ go out again = expr_by e σ (λ v. expr_by i σ (λ j. Act Local (go (set_cell σ a j v))))
  stmt_by K n (flat.set_cell_by a i op kind e) σ go out again =
      expr_by e σ (λ v. expr_by i σ (λ j. Act Local (go (set_cell σ a j (converted kind (K.arrays a) (applied op kind (converted (K.arrays a) kind (cell σ.arrays a j)) v))))))
  stmt_by K n (flat.store m i e) σ go out again = expr_by e σ (λ v. expr_by i σ (λ j. Act (Store m j v) (go (store_cell σ m j v))))
  stmt_by K n (flat.store_by m i op kind e) σ go out again =
      expr_by e σ (λ v. expr_by i σ (λ j. Act (Load m j) (Act (Store m j (converted kind (K.memories m) (applied op kind (converted (K.memories m) kind (cell σ.cells m j)) v))) (go (store_cell σ m j (converted kind (K.memories m) (applied op kind (converted (K.memories m) kind (cell σ.cells m j)) v)))))))
  stmt_by K n (flat.read_variable s x) σ go out again = Await s ByRead (λ v. Act Local (go (set_var σ x (converted (K.streams s) (K.vars x) v))))
  stmt_by K n (flat.read_cell s a i) σ go out again =
      expr_by i σ (λ j. Await s ByRead (λ v. Act Local (go (set_cell σ a j (converted (K.streams s) (K.arrays a) v)))))
  stmt_by K n (flat.read_store s m i) σ go out again =
      expr_by i σ (λ j. Await s ByRead (λ v. Act (Store m j (converted (K.streams s) (K.memories m) v)) (go (store_cell σ m j (converted (K.streams s) (K.memories m) v)))))
  stmt_by K n (flat.write s e) σ go out again = expr_by e σ (λ v. Act (Put s (Datum v)) (go σ))
  stmt_by K n (flat.take_end s) σ go out again = Await s ByOpen (λ v. go σ)
  stmt_by K n (flat.put_end s) σ go out again = Act (Put s EotToken) (go σ)
  stmt_by K n (flat.discard e) σ go out again = expr_by e σ (λ v. go σ)
  stmt_by K n (flat.clear a) σ go out again = locals (cells_of σ a) (go (cleared σ a))
  stmt_by K n (flat.branch e left right) σ go out again =
      expr_by e σ (λ v. Act Local (at_zero v (block_by K n right σ go out again) (block_by K n left σ go out again)))
  stmt_by K n (flat.loop e body step) σ go out again =
      turns n (expr_by e) (λ σ' next. block_by K n body σ' (λ σ''. block_by K n step σ'' next go next) go (λ σ''. block_by K n step σ'' next go next)) go σ
  stmt_by K n flat.break σ go out again = out σ
  stmt_by K n flat.continue σ go out again = again σ

  block_by : Kinds → ℕ → FlatStatements → State → (State → Behavior) → (State → Behavior) → (State → Behavior) → Behavior
  block_by K n flat.no_statement σ go out again = go σ
  block_by K n (flat.statement_then s rest) σ go out again = stmt_by K n s σ (λ σ'. block_by K n rest σ' go out again) out again

abbrev statements_by : Kinds → ℕ → List FlatStatement → State → (State → Behavior) → (State → Behavior) → (State → Behavior) → Behavior
statements_by K n [] σ go out again = go σ
statements_by K n (s ∷ rest) σ go out again = stmt_by K n s σ (λ σ'. statements_by K n rest σ' go out again) out again

-- ---- it is the trace of what is in memory

-- one reading after another
two : (f f' g g' : (ℕ → Behavior) → Behavior) → ((go : ℕ → Behavior) → f go ≡ f' go) → ((go : ℕ → Behavior) → g go ≡ g' go) → (go : ℕ → ℕ → Behavior) → f (λ a. g (go a)) ≡ f' (λ a. g' (go a))
two f f' g g' hf hg go = hf (λ a. g (go a)) ∙ ap f' (fun_ext (λ a. hg (go a)))

same_expr : (e : Expr) (σ : State) (go : ℕ → Behavior) → expr e σ go ≡ expr_by (flat_expression e) σ go
same_expr (Lit kind n) σ go = refl
same_expr (Var x) σ go = refl
same_expr (Cell' a p e) σ go = same_expr e σ _
same_expr (Read s) σ go = refl
same_expr (Peek s) σ go = refl
same_expr (Eot s) σ go = refl
same_expr (LoadCell m p e) σ go = same_expr e σ _
same_expr (Conv' from to p e) σ go = same_expr e σ _
same_expr (Apply' op kind p l q r) σ go = two (expr l σ) (expr_by (flat_expression l) σ) (expr r σ) (expr_by (flat_expression r) σ) (same_expr l σ) (same_expr r σ) (λ a b. go (applied op kind a b))
same_expr (Flip' kind p e) σ go = same_expr e σ _
same_expr (Not' p e) σ go = same_expr e σ _
same_expr (And' p l q r) σ go = two (expr l σ) (expr_by (flat_expression l) σ) (expr r σ) (expr_by (flat_expression r) σ) (same_expr l σ) (same_expr r σ) (λ a b. go (a * b))
same_expr (Or' p l q r) σ go = two (expr l σ) (expr_by (flat_expression l) σ) (expr r σ) (expr_by (flat_expression r) σ) (same_expr l σ) (same_expr r σ) (λ a b. go (1 - (1 - a) * (1 - b)))
same_expr (Choose' p e q a r b) σ go =
    same_expr e σ _
    ∙ ap (expr_by (flat_expression e) σ) (fun_ext (λ v. two (expr a σ) (expr_by (flat_expression a) σ) (expr b σ) (expr_by (flat_expression b) σ) (same_expr a σ) (same_expr b σ) (λ x y. go (at_zero v y x))))

same_test : (e : Expr) → expr e ≡ expr_by (flat_expression e)
same_test e = fun_ext (λ σ. fun_ext (λ go. same_expr e σ go))

same_two : (l r : Expr) (σ : State) (go : ℕ → ℕ → Behavior) → expr l σ (λ a. expr r σ (go a)) ≡ expr_by (flat_expression l) σ (λ a. expr_by (flat_expression r) σ (go a))
same_two l r σ go = two (expr l σ) (expr_by (flat_expression l) σ) (expr r σ) (expr_by (flat_expression r) σ) (same_expr l σ) (same_expr r σ) go

abbrev Then : Type 0
Then = State → Behavior

-- the two parts of a branch, and the body and the step of a loop
branches : (v : ℕ) (x x' y y' : Behavior) → x ≡ x' → y ≡ y' → Act Local (at_zero v x y) ≡ Act Local (at_zero v x' y')
branches v x x' y y' h k = ap (λ z. Act Local (at_zero v z y)) h ∙ ap (λ z. Act Local (at_zero v x' z)) k

abbrev Run : Type 0
Run = State → Then → Then → Then → Behavior

turning : (b b' s s' : Run) → ((σ : State) (go out again : Then) → b σ go out again ≡ b' σ go out again) → ((σ : State) (go out again : Then) → s σ go out again ≡ s' σ go out again) → (go next : Then) (σ : State) → b σ (λ σ'. s σ' next go next) go (λ σ'. s σ' next go next) ≡ b' σ (λ σ'. s' σ' next go next) go (λ σ'. s' σ' next go next)
turning b b' s s' hb hs go next σ =
    hb σ (λ σ'. s σ' next go next) go (λ σ'. s σ' next go next)
    ∙ ap (λ (on : Then). b' σ on go on) (fun_ext (λ σ'. hs σ' next go next))

mutual
  same_stmt : (K : Kinds) (n : ℕ) (s : Stmt) (σ : State) (go out again : Then) → stmt K n s σ go out again ≡ stmt_by K n (flat_statement s) σ go out again
  same_stmt K n (Set x e) σ go out again = same_expr e σ _
  same_stmt K n (SetCell a i e) σ go out again = same_two e i σ _
  same_stmt K n (SetCellBy a i op kind e) σ go out again = same_two e i σ _
  same_stmt K n (StoreCell m i e) σ go out again = same_two e i σ _
  same_stmt K n (StoreBy m i op kind e) σ go out again = same_two e i σ _
  same_stmt K n (ReadVar s x) σ go out again = refl
  same_stmt K n (ReadCell s a i) σ go out again = same_expr i σ _
  same_stmt K n (ReadStore s m i) σ go out again = same_expr i σ _
  same_stmt K n (Write s e) σ go out again = same_expr e σ _
  same_stmt K n (OpenIt s) σ go out again = refl
  same_stmt K n (Close s) σ go out again = refl
  same_stmt K n (Discard e) σ go out again = same_expr e σ _
  same_stmt K n (Clear a) σ go out again = refl
  same_stmt K n (If' e p left q right) σ go out again =
      same_expr e σ _
      ∙ ap (expr_by (flat_expression e) σ) (fun_ext (λ v. branches v _ _ _ _ (same_block K n right σ go out again) (same_block K n left σ go out again)))
  same_stmt K n (Loop' e p body q step) σ go out again =
      ap (λ (test : State → (ℕ → Behavior) → Behavior). turns n test (λ σ' next. block K n body σ' (λ σ''. block K n step σ'' next go next) go (λ σ''. block K n step σ'' next go next)) go σ) (same_test e)
      ∙ ap (λ (turn : State → Then → Behavior). turns n (expr_by (flat_expression e)) turn go σ)
      (fun_ext (λ σ'. fun_ext (λ next. turning (block K n body) (block_by K n (flat_row body)) (block K n step) (block_by K n (flat_row step)) (same_block K n body) (same_block K n step) go next σ')))
  same_stmt K n Break σ go out again = refl
  same_stmt K n Continue σ go out again = refl

  same_block : {m : _} → (K : Kinds) (n : ℕ) (b : Row_of-Stmt m) (σ : State) (go out again : Then) → block K n b σ go out again ≡ block_by K n (flat_row b) σ go out again
  same_block K n end_of-Stmt σ go out again = refl
  same_block K n (more_of-Stmt s rest) σ go out again =
      same_stmt K n s σ _ out again
      ∙ ap (λ (on : Then). stmt_by K n (flat_statement s) σ on out again) (fun_ext (λ σ'. same_block K n rest σ' go out again))

same_statements : (K : Kinds) (n : ℕ) (ss : List Stmt) (σ : State) (go out again : Then) → statements K n ss σ go out again ≡ statements_by K n (map flat_statement ss) σ go out again
same_statements K n [] σ go out again = refl
same_statements K n (s ∷ rest) σ go out again =
    same_stmt K n s σ _ out again
    ∙ ap (λ (on : Then). stmt_by K n (flat_statement s) σ on out again) (fun_ext (λ σ'. same_statements K n rest σ' go out again))

-- ---- the network of plain data

abbrev kinds_by : FlatLeaf → Kinds
kinds_by leaf = record {
  vars = λ x. slice_index_or leaf.vars x U64;
  arrays = λ a. unwrap_or (option_map (λ (r : Array). r.kind) (slice_get leaf.arrays a)) U64;
  memories = λ m. slice_index_or leaf.memories m U64;
  streams = λ p. unwrap_or (option_map (λ (e : End). e.kind) (slice_get leaf.streams p)) U64;
}

abbrev leaf_job_by : Option FlatLeaf → FlatInstance → State → ℕ → Behavior
leaf_job_by None x σ n = Finished
leaf_job_by (Some leaf) x σ n = at_streams (λ p. slice_index x.streams p) (statements_by (kinds_by leaf) n leaf.code σ (λ σ'. Finished) (λ σ'. Finished) (λ σ'. Finished))

abbrev instance_job_by : List FlatLeaf → Option FlatInstance → State → ℕ → Behavior
instance_job_by leaves None σ n = Finished
instance_job_by leaves (Some x) σ n = leaf_job_by (slice_get leaves x.body) x σ n

abbrev value_by : List Kind → List ℕ → FlatBound → ℕ
value_by kinds scalars (flat.number n) = n
value_by kinds scalars (flat.top_scalar x conversions) = through (slice_index_or kinds x U64) conversions (slice_index scalars x)

abbrev leaf_state_by : List Kind → List ℕ → List (List ℕ) → FlatInstance → Option FlatLeaf → State
leaf_state_by kinds scalars memories x None = empty_state
leaf_state_by kinds scalars memories x (Some leaf) = record {
  vars = with_values leaf.scalars (map (value_by kinds scalars) x.scalars) (replicate (length leaf.vars) 0);
  arrays = map (λ (a : Array). replicate a.cells 0) leaf.arrays;
  cells = map (λ m. slice_index_or memories m []) x.memories;
}

abbrev instance_state_by : FlatProgram → List ℕ → List (List ℕ) → Option FlatInstance → State
instance_state_by program scalars memories None = empty_state
instance_state_by program scalars memories (Some x) =
    leaf_state_by (map (λ (c : Scalar). c.kind) program.scalars) scalars memories x (slice_get program.bodies x.body)

abbrev detached_by : Option FlatInstance → Bool
detached_by None = false
detached_by (Some x) = x.detached

abbrev network_by : FlatProgram → List ℕ → List (List ℕ) → Network
network_by program scalars memories = record {
  size = length program.instances;
  job = λ i n. instance_job_by program.bodies (slice_get program.instances i) (instance_state_by program scalars memories (slice_get program.instances i)) n;
  detached = λ i. detached_by (slice_get program.instances i);
  producer = λ s. end_of (λ (r : Stream). r.producer) (slice_get program.streams s);
  consumer = λ s. end_of (λ (r : Stream). r.consumer) (slice_get program.streams s);
  depth = λ s. end_of (λ (r : Stream). r.depth) (slice_get program.streams s);
}

-- ---- it is the network of what is in memory

map_length : {A B : Type 0} (f : A → B) (xs : List A) → length xs ≡ length (map f xs)
map_length f [] = refl
map_length f (x ∷ xs) = ap suc (map_length f xs)

map_get : {A B : Type 0} (f : A → B) (xs : List A) (i : ℕ) → option_map f (slice_get xs i) ≡ slice_get (map f xs) i
map_get f [] i = refl
map_get f (x ∷ xs) zero = refl
map_get f (x ∷ xs) (suc i) = map_get f xs i

same_job : (o : Option Leaf) (x : Instance) (σ : State) (n : ℕ) → leaf_job o x σ n ≡ leaf_job_by (option_map flat_leaf o) (flat_instance x) σ n
same_job None x σ n = refl
same_job (Some leaf) x σ n = ap (at_streams (stream_at x)) (same_statements (kinds_of leaf) n leaf.code.items σ (λ σ'. Finished) (λ σ'. Finished) (λ σ'. Finished))

same_instance_job : (leaves : List Leaf) (o : Option Instance) (σ : State) (n : ℕ) → instance_job leaves o σ n ≡ instance_job_by (map flat_leaf leaves) (option_map flat_instance o) σ n
same_instance_job leaves None σ n = refl
same_instance_job leaves (Some x) σ n = same_job (slice_get leaves x.body) x σ n ∙ ap (λ (o : Option FlatLeaf). leaf_job_by o (flat_instance x) σ n) (map_get flat_leaf leaves x.body)

same_value : (kinds : List Kind) (scalars : List ℕ) (b : Bound) → bound_value kinds scalars b ≡ value_by kinds scalars (flat_bound b)
same_value kinds scalars (Number n) = refl
same_value kinds scalars (Top x conversions) = refl

same_values : (kinds : List Kind) (scalars : List ℕ) (bs : List Bound) → map (bound_value kinds scalars) bs ≡ map (value_by kinds scalars) (map flat_bound bs)
same_values kinds scalars [] = refl
same_values kinds scalars (b ∷ bs) =
    ap (λ (v : ℕ). v ∷ map (bound_value kinds scalars) bs) (same_value kinds scalars b)
    ∙ ap (λ (vs : List ℕ). value_by kinds scalars (flat_bound b) ∷ vs) (same_values kinds scalars bs)

-- a leaf's first state by the values of its scalars
abbrev state_with : Leaf → List (List ℕ) → Instance → List ℕ → State
state_with leaf memories x values = record {
  vars = with_values leaf.scalars.items values (replicate (length leaf.vars.items) 0);
  arrays = map (λ (a : Array). replicate a.cells 0) leaf.arrays.items;
  cells = map (λ m. slice_index_or memories m []) x.memories.items;
}

same_leaf_state : (kinds : List Kind) (scalars : List ℕ) (memories : List (List ℕ)) (x : Instance) (o : Option Leaf) → leaf_state kinds scalars memories x o ≡ leaf_state_by kinds scalars memories (flat_instance x) (option_map flat_leaf o)
same_leaf_state kinds scalars memories x None = refl
same_leaf_state kinds scalars memories x (Some leaf) = ap (state_with leaf memories x) (same_values kinds scalars x.scalars.items)

same_state : (p : Program) (scalars : List ℕ) (memories : List (List ℕ)) (o : Option Instance) → instance_state p scalars memories o ≡ instance_state_by (flat_program p) scalars memories (option_map flat_instance o)
same_state p scalars memories None = refl
same_state p scalars memories (Some x) =
    same_leaf_state (map (λ (c : Scalar). c.kind) p.scalars.items) scalars memories x (slice_get p.bodies.items x.body)
    ∙ ap (leaf_state_by (map (λ (c : Scalar). c.kind) p.scalars.items) scalars memories (flat_instance x)) (map_get flat_leaf p.bodies.items x.body)

same_at : (p : Program) (scalars : List ℕ) (memories : List (List ℕ)) (i n : ℕ) → instance_job p.bodies.items (slice_get p.instances.items i) (first_state p scalars memories i) n ≡ (network_by (flat_program p) scalars memories).job i n
same_at p scalars memories i n =
    same_instance_job p.bodies.items (slice_get p.instances.items i) (first_state p scalars memories i) n
    ∙ ap (λ (σ : State). instance_job_by (map flat_leaf p.bodies.items) (option_map flat_instance (slice_get p.instances.items i)) σ n) (same_state p scalars memories (slice_get p.instances.items i))
    ∙ ap (λ (o : Option FlatInstance). instance_job_by (map flat_leaf p.bodies.items) o (instance_state_by (flat_program p) scalars memories o) n) (map_get flat_instance p.instances.items i)

same_detached : (o : Option Instance) → is_detached o ≡ detached_by (option_map flat_instance o)
same_detached None = refl
same_detached (Some x) = refl

-- a network by its number of instances, its jobs, and which are detached
abbrev network_at : Program → ℕ → (ℕ → ℕ → Behavior) → (ℕ → Bool) → Network
network_at program size job detached = record {
  size = size;
  job = job;
  detached = detached;
  producer = λ s. end_of (λ (r : Stream). r.producer) (slice_get program.streams.items s);
  consumer = λ s. end_of (λ (r : Stream). r.consumer) (slice_get program.streams.items s);
  depth = λ s. end_of (λ (r : Stream). r.depth) (slice_get program.streams.items s);
}

pub same_network : (p : Program) (scalars : List ℕ) (memories : List (List ℕ)) → network_of p scalars memories ≡ network_by (flat_program p) scalars memories
unfolding network_of
same_network p scalars memories =
    let net = network_with p (first_state p scalars memories) in
    let bare = network_by (flat_program p) scalars memories in
    ap (λ (m : ℕ). network_at p m net.job net.detached) (map_length flat_instance p.instances.items)
    ∙ ap (λ (job : ℕ → ℕ → Behavior). network_at p bare.size job net.detached) (fun_ext (λ i. fun_ext (λ n. same_at p scalars memories i n)))
    ∙ ap (network_at p bare.size bare.job) (fun_ext (λ i. same_detached (slice_get p.instances.items i) ∙ ap detached_by (map_get flat_instance p.instances.items i)))

pub one_meaning : (p q : Program) → flat_program p ≡ flat_program q → (scalars : List ℕ) (memories : List (List ℕ)) → network_of p scalars memories ≡ network_of q scalars memories
one_meaning p q same scalars memories =
    same_network p scalars memories ∙ ap (λ (program : FlatProgram). network_by program scalars memories) same ∙ sym (same_network q scalars memories)
