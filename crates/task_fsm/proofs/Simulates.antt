-- The machine that is compiled makes the ticks of the job, whatever tokens come.
use Rattle.std.proofs.Common.{◌≡◌, ℕ, ◌+◌, ◌-◌, ◌*◌, ◌^◌, ◌<◌, ◌≤◌, List, length, get_or, Some, None, refl, sym, ap, ◌∙◌, subst, arith, length-set}
use Rattle.std.specs.Prelude.{Option, slice_get, slice_index}
use Rattle.std.proofs.lemmas.List.{get_or-set_same, get_or-set_other}
use Rattle.tapa_syntax.specs.declared.program.Expr.{Expr}
use Rattle.tapa_syntax.specs.declared.program.Expr.TheVariants.{Lit, Var, Cell', Read, Peek, Eot, Load', Conv', Apply', Flip', Not', And', Or', Choose'}
use Rattle.kahn_model.specs.declared.tick.Action.TheVariants.{Load}
use Rattle.kahn_model.specs.declared.tick.StreamOperation.{StreamOperation}
use Rattle.kahn_model.specs.declared.tick.StreamOperation.TheVariants.{Read as ByRead, Peek as ByPeek, TestEot}
use Rattle.kahn_model.specs.Behavior.{Behavior, Act, Await}
use Rattle.kahn_model.specs.Trace.{State, at_zero, cell, cells_of, set_var, expr}
use Rattle.tapa_syntax.specs.LeafKinds.{Kinds}
use Rattle.tapa_base.specs.Kinds.{bits_of, converted}
use Rattle.tapa_base.specs.Operators.{applied}
use Rattle.task_fsm.specs.Machine.{StateForm, ReadAt, PeekAt, EotAt, LoadAt, TrapAt}
use Rattle.task_fsm.specs.Run.{value, Performs, Awaits, step, cleared_after, ReadsOnly, UsesOnly}
use Rattle.tapa_syntax.specs.ArrayUse.{In, FitsExpr}
use Rattle.task_fsm.specs.Follows.{Follows}
use Rattle.task_fsm.specs.Code.{Emitted, emit_held, residual, operations}
use Rattle.tapa_syntax.specs.TickPlaces.{operation_count}
use Rattle.task_fsm.proofs.Grows.{IsTail, tail_trans, grows_hold, grows_ops, regs_ops, stands}

abbrev IsNoTrap : StateForm → Type 0
IsNoTrap TrapAt = ⊥
IsNoTrap _ = Unit {0}

abbrev IsNoTrapAt : Option StateForm → Type 0
IsNoTrapAt None = Unit {0}
IsNoTrapAt (Some p) = IsNoTrap p

pub two : {A B C : Type 0} (f : A → B → C) (a a' : A) (b b' : B) → a ≡ a' → b ≡ b' → f a b ≡ f a' b'
two f a a' b b' e g = ap (λ x. f x b) e ∙ ap (λ y. f a' y) g

abbrev pub Sub : List ℕ → List ℕ → Type 0
Sub S T = (a : ℕ) → In a S → In a T

-- the second differs from the first in the n registers from lo on only
pub record Apart (lo n : ℕ) (τ τ' : State) : Type 0 where
  pub below : (x : ℕ) → x < lo → get_or τ'.vars x 0 ≡ get_or τ.vars x 0
  pub above : (x : ℕ) → lo + n ≤ x → get_or τ'.vars x 0 ≡ get_or τ.vars x 0
  pub room : length τ'.vars ≡ length τ.vars
  pub arrays : τ'.arrays ≡ τ.arrays
  pub cells : τ'.cells ≡ τ.cells

pub apart_none : (lo : ℕ) (τ : State) → Apart lo 0 τ τ
apart_none lo τ = record { below = λ x l. refl; above = λ x l. refl; room = refl; arrays = refl; cells = refl }

pub apart_set : (r v : ℕ) (τ : State) → Apart r 1 τ (set_var τ r v)
apart_set r v τ = record {
  below = λ x l. get_or-set_other τ.vars r x v 0 (λ e. omega arith);
  above = λ x l. get_or-set_other τ.vars r x v 0 (λ e. omega arith);
  room = length-set τ.vars r v;
  arrays = refl;
  cells = refl;
}

-- first the registers after, then those before
pub apart_join : (lo m n k : ℕ) (τ τ1 τ2 : State) → k ≡ m + n → Apart (lo + m) n τ τ1 → Apart lo m τ1 τ2 → Apart lo k τ τ2
apart_join lo m n k τ τ1 τ2 e p q = record {
  below = λ x l. q.below x l ∙ p.below x (omega arith);
  above = λ x l. q.above x (omega arith) ∙ p.above x (omega arith);
  room = q.room ∙ p.room;
  arrays = q.arrays ∙ p.arrays;
  cells = q.cells ∙ p.cells;
}

-- the machine holds what the job keeps: variables in the first c registers, a counter at 0, the arrays and the cells
pub record Holds (c size n : ℕ) (σ τ : State) : Type 0 where
  pub same : (x : ℕ) → x < c → get_or τ.vars x 0 ≡ get_or σ.vars x 0
  pub counter : get_or τ.vars c 0 ≡ 0
  pub long : length σ.vars ≡ c
  pub room : length τ.vars ≡ size
  pub arrays : τ.arrays ≡ σ.arrays
  pub cells : τ.cells ≡ σ.cells
  pub many : length σ.arrays ≡ n
  pub full : (a : ℕ) → a < n → 1 ≤ cells_of σ a

pub holds_apart : (c size n lo m : ℕ) (σ τ τ' : State) → c < lo → Holds c size n σ τ → Apart lo m τ τ' → Holds c size n σ τ'
holds_apart c size n lo m σ τ τ' l h p = record {
  same = λ x lx. p.below x (omega arith) ∙ h.same x lx;
  counter = p.below c l ∙ h.counter;
  long = h.long;
  room = p.room ∙ h.room;
  arrays = p.arrays ∙ h.arrays;
  cells = p.cells ∙ h.cells;
  many = h.many;
  full = h.full;
}

pub uses_left : (c : ℕ) (S T : List ℕ) (e : Expr) (t : ℕ) → Sub S T → FitsExpr c S e → ReadsOnly T (residual e t)
uses_left c S T (Lit kind n) t sub f = tt
uses_left c S T (Var x) t sub f = tt
uses_left c S T (Cell' a p e) t sub f = (sub a f.0, uses_left c S T e t sub f.1)
uses_left c S T (Read s) t sub f = tt
uses_left c S T (Peek s) t sub f = tt
uses_left c S T (Eot s) t sub f = tt
uses_left c S T (Load' m p e) t sub f = tt
uses_left c S T (Conv' source target p e) t sub f = uses_left c S T e t sub f
uses_left c S T (Apply' op kind p l q r) t sub f = (uses_left c S T l (t + operation_count r) sub f.0, uses_left c S T r t sub f.1)
uses_left c S T (Flip' kind p e) t sub f = uses_left c S T e t sub f
uses_left c S T (Not' p e) t sub f = uses_left c S T e t sub f
uses_left c S T (And' p l q r) t sub f = (uses_left c S T l (t + operation_count r) sub f.0, uses_left c S T r t sub f.1)
uses_left c S T (Or' p l q r) t sub f = (uses_left c S T l (t + operation_count r) sub f.0, uses_left c S T r t sub f.1)
uses_left c S T (Choose' p e q a r b) t sub f =
    (uses_left c S T e (t + (operation_count b + operation_count a)) sub f.0, uses_left c S T a (t + operation_count b) sub f.1, uses_left c S T b t sub f.2)

-- the same in the variables, in n registers from t on, and in the arrays
pub record Alike (c t n : ℕ) (τ τ' : State) : Type 0 where
  pub vars : (x : ℕ) → x < c → get_or τ'.vars x 0 ≡ get_or τ.vars x 0
  pub regs : (x : ℕ) → t ≤ x → x < t + n → get_or τ'.vars x 0 ≡ get_or τ.vars x 0
  pub arrays : τ'.arrays ≡ τ.arrays

pub alike_part : (c t n t' n' : ℕ) (τ τ' : State) → t ≤ t' → t' + n' ≤ t + n → Alike c t n τ τ' → Alike c t' n' τ τ'
alike_part c t n t' n' τ τ' l m h = record { vars = h.vars; regs = λ x a b. h.regs x (omega arith) (omega arith); arrays = h.arrays }

pub value_same : (c : ℕ) (S : List ℕ) (e : Expr) (t : ℕ) (τ τ' : State) → FitsExpr c S e → Alike c t (operation_count e) τ τ' → value (residual e t) τ' ≡ value (residual e t) τ
value_same c S (Lit kind n) t τ τ' f h = refl
value_same c S (Var x) t τ τ' f h = h.vars x f
value_same c S (Cell' a p e) t τ τ' f h =
    two (λ rows i. cell rows a i) τ'.arrays τ.arrays (value (residual e t) τ') (value (residual e t) τ) h.arrays (value_same c S e t τ τ' f.1 h)
value_same c S (Read s) t τ τ' f h = h.regs t (omega arith) (omega arith)
value_same c S (Peek s) t τ τ' f h = h.regs t (omega arith) (omega arith)
value_same c S (Eot s) t τ τ' f h = h.regs t (omega arith) (omega arith)
value_same c S (Load' m p e) t τ τ' f h = h.regs t (omega arith) (omega arith)
value_same c S (Conv' source target p e) t τ τ' f h = ap (converted source target) (value_same c S e t τ τ' f h)
value_same c S (Apply' op kind p l q r) t τ τ' f h =
    two (applied op kind) (value (residual l (t + operation_count r)) τ') (value (residual l (t + operation_count r)) τ) (value (residual r t) τ') (value (residual r t) τ)
    (value_same c S l (t + operation_count r) τ τ' f.0 (alike_part c t (operation_count r + operation_count l) (t + operation_count r) (operation_count l) τ τ' (omega arith) (omega arith) h))
    (value_same c S r t τ τ' f.1 (alike_part c t (operation_count r + operation_count l) t (operation_count r) τ τ' (omega arith) (omega arith) h))
value_same c S (Flip' kind p e) t τ τ' f h = ap (λ v. 2 ^ bits_of kind - 1 - v) (value_same c S e t τ τ' f h)
value_same c S (Not' p e) t τ τ' f h = ap (λ v. 1 - v) (value_same c S e t τ τ' f h)
value_same c S (And' p l q r) t τ τ' f h =
    two (λ a b. a * b) (value (residual l (t + operation_count r)) τ') (value (residual l (t + operation_count r)) τ) (value (residual r t) τ') (value (residual r t) τ)
    (value_same c S l (t + operation_count r) τ τ' f.0 (alike_part c t (operation_count r + operation_count l) (t + operation_count r) (operation_count l) τ τ' (omega arith) (omega arith) h))
    (value_same c S r t τ τ' f.1 (alike_part c t (operation_count r + operation_count l) t (operation_count r) τ τ' (omega arith) (omega arith) h))
value_same c S (Or' p l q r) t τ τ' f h =
    two (λ a b. 1 - (1 - a) * (1 - b)) (value (residual l (t + operation_count r)) τ') (value (residual l (t + operation_count r)) τ) (value (residual r t) τ') (value (residual r t) τ)
    (value_same c S l (t + operation_count r) τ τ' f.0 (alike_part c t (operation_count r + operation_count l) (t + operation_count r) (operation_count l) τ τ' (omega arith) (omega arith) h))
    (value_same c S r t τ τ' f.1 (alike_part c t (operation_count r + operation_count l) t (operation_count r) τ τ' (omega arith) (omega arith) h))
value_same c S (Choose' p e q a r b) t τ τ' f h =
    let ve = value_same c S e (t + (operation_count b + operation_count a)) τ τ' f.0 (alike_part c t (operation_count b + operation_count a + operation_count e) (t + (operation_count b + operation_count a)) (operation_count e) τ τ' (omega arith) (omega arith) h) in
    let va = value_same c S a (t + operation_count b) τ τ' f.1 (alike_part c t (operation_count b + operation_count a + operation_count e) (t + operation_count b) (operation_count a) τ τ' (omega arith) (omega arith) h) in
    let vb = value_same c S b t τ τ' f.2 (alike_part c t (operation_count b + operation_count a + operation_count e) t (operation_count b) τ τ' (omega arith) (omega arith) h) in
    two (λ z (g : ℕ → ℕ). g z) (value (residual e (t + (operation_count b + operation_count a))) τ') (value (residual e (t + (operation_count b + operation_count a))) τ) (λ z. at_zero z (value (residual b t) τ') (value (residual a (t + operation_count b)) τ')) (λ z. at_zero z (value (residual b t) τ) (value (residual a (t + operation_count b)) τ)) ve
    (two (λ y x z. at_zero z y x) (value (residual b t) τ') (value (residual b t) τ) (value (residual a (t + operation_count b)) τ') (value (residual a (t + operation_count b)) τ) vb va)

-- a value stays where what differs is before its registers, and after the variables
pub value_stays : (c : ℕ) (S : List ℕ) (e : Expr) (t lo m : ℕ) (τ τ' : State) → c < lo → lo + m ≤ t → FitsExpr c S e → Apart lo m τ τ' → value (residual e t) τ' ≡ value (residual e t) τ
value_stays c S e t lo m τ τ' l le f p =
    value_same c S e t τ τ' f (record { vars = λ x lx. p.below x (omega arith); regs = λ x a b. p.above x (omega arith); arrays = p.arrays })

-- a place that is not the trap
pub no_trap : (P : List StateForm) (pc : ℕ) (p : StateForm) → slice_get P pc ≡ Some p → IsNoTrap p → slice_get P pc ≡ Some TrapAt → ⊥
no_trap P pc p at is e = subst (λ (o : Option StateForm). IsNoTrapAt o) (sym at ∙ e) is

-- nor is the first of an expression's operations
pub no_trap_ops : (K : Kinds) (P : List StateForm) (e : Expr) (B : Emitted) → IsTail (operations K (length P) e B).places P → (slice_get P B.entry ≡ Some TrapAt → ⊥) → slice_get P (operations K (length P) e B).entry ≡ Some TrapAt → ⊥
no_trap_ops K P (Lit kind k) B tail d = d
no_trap_ops K P (Var x) B tail d = d
no_trap_ops K P (Cell' a p e) B tail d = no_trap_ops K P e B tail d
no_trap_ops K P (Read s) B tail d = no_trap P (length P - (length B.places + 1)) (ReadAt s (Some (length B.regs)) B.entry) (stands (ReadAt s (Some (length B.regs)) B.entry) B.places P tail) tt
no_trap_ops K P (Peek s) B tail d = no_trap P (length P - (length B.places + 1)) (PeekAt s (Some (length B.regs)) B.entry) (stands (PeekAt s (Some (length B.regs)) B.entry) B.places P tail) tt
no_trap_ops K P (Eot s) B tail d = no_trap P (length P - (length B.places + 1)) (EotAt s (Some (length B.regs)) B.entry) (stands (EotAt s (Some (length B.regs)) B.entry) B.places P tail) tt
no_trap_ops K P (Load' m q e) B tail d =
    let p = λ (t next : ℕ). LoadAt m (residual e (t + 1)) (Some t) next in
    let C = emit_held (length P) (K.memories m) p B in
    let g = grows_ops K (length P) e C in
    no_trap_ops K P e C tail (no_trap P C.entry (p (length B.regs) B.entry) (stands (p (length B.regs) B.entry) B.places P (tail_trans C.places (operations K (length P) e C).places P g.tail tail)) tt)
no_trap_ops K P (Conv' source target p e) B tail d = no_trap_ops K P e B tail d
no_trap_ops K P (Apply' op kind p l q r) B tail d =
    let C = operations K (length P) r B in
    let g = grows_ops K (length P) l C in
    no_trap_ops K P l C tail (no_trap_ops K P r B (tail_trans C.places (operations K (length P) l C).places P g.tail tail) d)
no_trap_ops K P (Flip' kind p e) B tail d = no_trap_ops K P e B tail d
no_trap_ops K P (Not' p e) B tail d = no_trap_ops K P e B tail d
no_trap_ops K P (And' p l q r) B tail d =
    let C = operations K (length P) r B in
    let g = grows_ops K (length P) l C in
    no_trap_ops K P l C tail (no_trap_ops K P r B (tail_trans C.places (operations K (length P) l C).places P g.tail tail) d)
no_trap_ops K P (Or' p l q r) B tail d =
    let C = operations K (length P) r B in
    let g = grows_ops K (length P) l C in
    no_trap_ops K P l C tail (no_trap_ops K P r B (tail_trans C.places (operations K (length P) l C).places P g.tail tail) d)
no_trap_ops K P (Choose' p e q a r b) B tail d =
    let A = operations K (length P) b B in
    let C = operations K (length P) a A in
    let g = grows_ops K (length P) e C in
    let ga = grows_ops K (length P) a A in
    let tail1 = tail_trans C.places (operations K (length P) e C).places P g.tail tail in
    no_trap_ops K P e C tail (no_trap_ops K P a A tail1 (no_trap_ops K P b B (tail_trans A.places C.places P ga.tail tail1) d))

module _ (K : Kinds) (P : List StateForm) (c size n : ℕ) where
  -- what goes on with an expression's value
  abbrev pub Goes_with : Expr → Emitted → List ℕ → (ℕ → Behavior) → State → Type 0
  Goes_with e B T go τ =
      (v : ℕ) (τ' : State) → Apart (length B.regs) (operation_count e) τ τ' → value (residual e (length B.regs)) τ' ≡ v → Follows P T (go v) B.entry τ'

  abbrev pub Computes : Expr → Type 0
  Computes e =
      (S T : List ℕ) (B : Emitted) (σ τ : State) → c < length B.regs → IsTail (operations K (length P) e B).places P → length (operations K (length P) e B).regs ≤ size → FitsExpr c S e → Sub S T → Holds c size n σ τ → (go : ℕ → Behavior) → Goes_with e B T go τ → Follows P T (expr e σ go) (operations K (length P) e B).entry τ

  abbrev pub Goes_with_two : Expr → Expr → Emitted → List ℕ → (ℕ → ℕ → Behavior) → State → Type 0
  Goes_with_two l r B T go τ =
      (a b : ℕ) (τ' : State) → Apart (length B.regs) (operation_count r + operation_count l) τ τ' → value (residual l (length B.regs + operation_count r)) τ' ≡ a → value (residual r (length B.regs)) τ' ≡ b → Follows P T (go a b) B.entry τ'

  -- two expressions, one after the other
  pub follows_two : (l r : Expr) → Computes l → Computes r → (S T : List ℕ) (B : Emitted) (σ τ : State) → c < length B.regs → IsTail (operations K (length P) l (operations K (length P) r B)).places P → length (operations K (length P) l (operations K (length P) r B)).regs ≤ size → FitsExpr c S l → FitsExpr c S r → Sub S T → Holds c size n σ τ → (go : ℕ → ℕ → Behavior) → Goes_with_two l r B T go τ → Follows P T (expr l σ (λ a. expr r σ (λ b. go a b))) (operations K (length P) l (operations K (length P) r B)).entry τ
  follows_two l r cl cr S T B σ τ lt tail room fl fr sub h go on =
      let N = length P in
      let C = operations K N r B in
      let gl = grows_ops K N l C in
      let er = regs_ops K N r B in
      let el = regs_ops K N l C in
      cl S T C σ τ (omega arith) tail room fl sub h (λ a. expr r σ (λ b. go a b))
      (λ a τ1 p1 v1.
      let q1 = subst (λ k. Apart k (operation_count l) τ τ1) er p1 in
      let w1 = subst (λ k. value (residual l k) τ1 ≡ a) er v1 in
      cr S T B σ τ1 lt (tail_trans C.places (operations K N l C).places P gl.tail tail) (omega arith) fr sub (holds_apart c size n (length B.regs + operation_count r) (operation_count l) σ τ τ1 (omega arith) h q1) (λ b. go a b)
      (λ b τ2 p2 v2.
      on a b τ2 (apart_join (length B.regs) (operation_count r) (operation_count l) (operation_count r + operation_count l) τ τ1 τ2 refl q1 p2)
      (value_stays c S l (length B.regs + operation_count r) (length B.regs) (operation_count r) τ1 τ2 lt (omega arith) fl p2 ∙ w1) v2))

  -- an operation on a stream, whose value goes into a new register
  pub follows_ask : (s : ℕ) (how : StreamOperation) (T : List ℕ) (B : Emitted) (p : StateForm) (pc : ℕ) (τ : State) → length B.regs < size → length τ.vars ≡ size → slice_get P pc ≡ Some p → step p pc τ ≡ Awaits s how B.entry (Some (length B.regs)) → cleared_after p τ T ≡ T → UsesOnly T p → (go : ℕ → Behavior) → ((v : ℕ) (τ' : State) → Apart (length B.regs) 1 τ τ' → get_or τ'.vars (length B.regs) 0 ≡ v → Follows P T (go v) B.entry τ') → Follows P T (Await s how go) pc τ
  follows_ask s how T B p pc τ lt room at is keeps uses go on =
      (p, B.entry, Some (length B.regs), at, is, keeps, uses, λ v. on v (set_var τ (length B.regs) v) (apart_set (length B.regs) v τ) (get_or-set_same τ.vars (length B.regs) v 0 (omega arith)))

  pub computes : (e : Expr) → Computes e
  computes (Lit kind k) S T B σ τ lt tail room f sub h go on = on k τ (apart_none (length B.regs) τ) refl
  computes (Var x) S T B σ τ lt tail room f sub h go on = on (slice_index σ.vars x) τ (apart_none (length B.regs) τ) (h.same x f)
  computes (Cell' a p e) S T B σ τ lt tail room f sub h go on =
      computes e S T B σ τ lt tail room f.1 sub h (λ i. go (cell σ.arrays a i))
      (λ i τ' q v. on (cell σ.arrays a i) τ' q (two (λ rows j. cell rows a j) τ'.arrays σ.arrays (value (residual e (length B.regs)) τ') i (q.arrays ∙ h.arrays) v))
  computes (Read s) S T B σ τ lt tail room f sub h go on =
      let l = regs_ops K (length P) (Read s) B in
      follows_ask s ByRead T B (ReadAt s (Some (length B.regs)) B.entry) (length P - (length B.places + 1)) τ (omega arith) h.room (stands (ReadAt s (Some (length B.regs)) B.entry) B.places P tail) refl refl tt go on
  computes (Peek s) S T B σ τ lt tail room f sub h go on =
      let l = regs_ops K (length P) (Peek s) B in
      follows_ask s ByPeek T B (PeekAt s (Some (length B.regs)) B.entry) (length P - (length B.places + 1)) τ (omega arith) h.room (stands (PeekAt s (Some (length B.regs)) B.entry) B.places P tail) refl refl tt go on
  computes (Eot s) S T B σ τ lt tail room f sub h go on =
      let l = regs_ops K (length P) (Eot s) B in
      follows_ask s TestEot T B (EotAt s (Some (length B.regs)) B.entry) (length P - (length B.places + 1)) τ (omega arith) h.room (stands (EotAt s (Some (length B.regs)) B.entry) B.places P tail) refl refl tt go on
  computes (Load' m q e) S T B σ τ lt tail room f sub h go on =
      let N = length P in
      let p = λ (t next : ℕ). LoadAt m (residual e (t + 1)) (Some t) next in
      let t = length B.regs in
      let C = emit_held N (K.memories m) p B in
      let g = grows_hold N (K.memories m) p B in
      let ge = grows_ops K N e C in
      let er = regs_ops K N (Load' m q e) B in
      let ec = regs_ops K N e C in
      let e1 : length C.regs ≡ t + 1 = omega arith in
      let at = stands (p t B.entry) B.places P (tail_trans C.places (operations K N e C).places P ge.tail tail) in
      computes e S T C σ τ (omega arith) tail room f sub h (λ i. Act (Load m i) (go (cell σ.cells m i)))
      (λ i τ1 p1 v1.
      let q1 = subst (λ k. Apart k (operation_count e) τ τ1) e1 p1 in
      let w1 = subst (λ k. value (residual e k) τ1 ≡ i) e1 v1 in
      let room1 = q1.room in
      let hr = h.room in
      let v = cell σ.cells m i in
      let ev : cell τ1.cells m (value (residual e (t + 1)) τ1) ≡ v = two (λ rows j. cell rows m j) τ1.cells σ.cells (value (residual e (t + 1)) τ1) i (q1.cells ∙ h.cells) w1 in (
        p t B.entry,
        B.entry,
        set_var τ1 t v,
        at,
        two (λ x y. Performs (Load m x) B.entry (set_var τ1 t y)) (value (residual e (t + 1)) τ1) i (cell τ1.cells m (value (residual e (t + 1)) τ1)) v w1 ev,
        uses_left c S T e (t + 1) sub f,
        on v (set_var τ1 t v) (apart_join t 1 (operation_count e) (1 + operation_count e) τ τ1 (set_var τ1 t v) refl q1 (apart_set t v τ1)) (get_or-set_same τ1.vars t v 0 (omega arith)),
      ))
  computes (Conv' source target p e) S T B σ τ lt tail room f sub h go on =
      computes e S T B σ τ lt tail room f sub h (λ v. go (converted source target v)) (λ v τ' q w. on (converted source target v) τ' q (ap (converted source target) w))
  computes (Apply' op kind p l q r) S T B σ τ lt tail room f sub h go on =
      follows_two l r (computes l) (computes r) S T B σ τ lt tail room f.0 f.1 sub h (λ a b. go (applied op kind a b))
      (λ a b τ' q v w. on (applied op kind a b) τ' q (two (applied op kind) (value (residual l (length B.regs + operation_count r)) τ') a (value (residual r (length B.regs)) τ') b v w))
  computes (Flip' kind p e) S T B σ τ lt tail room f sub h go on =
      computes e S T B σ τ lt tail room f sub h (λ v. go (2 ^ bits_of kind - 1 - v)) (λ v τ' q w. on (2 ^ bits_of kind - 1 - v) τ' q (ap (λ x. 2 ^ bits_of kind - 1 - x) w))
  computes (Not' p e) S T B σ τ lt tail room f sub h go on =
      computes e S T B σ τ lt tail room f sub h (λ v. go (1 - v)) (λ v τ' q w. on (1 - v) τ' q (ap (λ x. 1 - x) w))
  computes (And' p l q r) S T B σ τ lt tail room f sub h go on =
      follows_two l r (computes l) (computes r) S T B σ τ lt tail room f.0 f.1 sub h (λ a b. go (a * b))
      (λ a b τ' q v w. on (a * b) τ' q (two (λ x y. x * y) (value (residual l (length B.regs + operation_count r)) τ') a (value (residual r (length B.regs)) τ') b v w))
  computes (Or' p l q r) S T B σ τ lt tail room f sub h go on =
      follows_two l r (computes l) (computes r) S T B σ τ lt tail room f.0 f.1 sub h (λ a b. go (1 - (1 - a) * (1 - b)))
      (λ a b τ' q v w. on (1 - (1 - a) * (1 - b)) τ' q (two (λ x y. 1 - (1 - x) * (1 - y)) (value (residual l (length B.regs + operation_count r)) τ') a (value (residual r (length B.regs)) τ') b v w))
  computes (Choose' p e q a r b) S T B σ τ lt tail room f sub h go on =
      let N = length P in
      let t = length B.regs in
      let A = operations K N b B in
      let C = operations K N a A in
      let ge = grows_ops K N e C in
      let eb = regs_ops K N b B in
      let ea = regs_ops K N a A in
      let ee = regs_ops K N e C in
      let e1 : length C.regs ≡ t + (operation_count b + operation_count a) = omega arith in
      computes e S T C σ τ (omega arith) tail room f.0 sub h (λ v. expr a σ (λ x. expr b σ (λ y. go (at_zero v y x))))
      (λ v τ1 p1 v1.
      let q1 = subst (λ k. Apart k (operation_count e) τ τ1) e1 p1 in
      let w1 = subst (λ k. value (residual e k) τ1 ≡ v) e1 v1 in
      follows_two a b (computes a) (computes b) S T B σ τ1 lt (tail_trans C.places (operations K N e C).places P ge.tail tail) (omega arith) f.1 f.2 sub (holds_apart c size n (t + (operation_count b + operation_count a)) (operation_count e) σ τ τ1 (omega arith) h q1) (λ x y. go (at_zero v y x))
      (λ x y τ2 p2 vx vy.
      let w2 = value_stays c S e (t + (operation_count b + operation_count a)) t (operation_count b + operation_count a) τ1 τ2 lt (omega arith) f.0 p2 ∙ w1 in
      on (at_zero v y x) τ2 (apart_join t (operation_count b + operation_count a) (operation_count e) (operation_count b + operation_count a + operation_count e) τ τ1 τ2 refl q1 p2)
      (two (λ z (g : ℕ → ℕ). g z) (value (residual e (t + (operation_count b + operation_count a))) τ2) v (λ z. at_zero z (value (residual b t) τ2) (value (residual a (t + operation_count b)) τ2)) (λ z. at_zero z y x) w2
      (two (λ d u z. at_zero z d u) (value (residual b t) τ2) y (value (residual a (t + operation_count b)) τ2) x vy vx))))
