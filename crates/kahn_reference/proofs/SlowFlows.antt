-- How runs go on, one after another.
use Rattle.std.proofs.Common.{◌≡◌, ℕ, zero, suc, List, [], ◌∷◌, ◌++◌, get_or, drop, refl, sym, ap, ◌∙◌, subst, append_assoc}
use Rattle.std.specs.Prelude.{Vec, slice_get, replicate}
use Rattle.std.specs.declared.alloc.Global.{Global}
use Rattle.std.proofs.Math.Path.{fun_ext}
use Rattle.std.proofs.lemmas.List.{append-nil}
use Rattle.tapa_base.specs.declared.token.Token.{Token}
use Rattle.tapa_syntax.specs.declared.program.Expr.{Expr}
use Rattle.tapa_syntax.specs.declared.program.Stmt.{Stmt, Row_of-Stmt, end_of-Stmt, more_of-Stmt, If, If', Loop, Loop', items-the_row-Stmt, items_hidden-the_row-Stmt-0}
use Rattle.kahn_reference.specs.declared.slow.Value.{Value}
use Rattle.kahn_reference.specs.declared.slow.Value.TheVariants.{Given, Stopped}
use Rattle.kahn_reference.specs.declared.slow.Pair.{Pair}
use Rattle.kahn_reference.specs.declared.slow.Pair.TheVariants.{Given as GivenPair, Stopped as StoppedPair}
use Rattle.kahn_reference.specs.declared.slow.Flow.{Flow}
use Rattle.kahn_reference.specs.declared.slow.Flow.TheVariants.{Next, Out, Again, Stopped as StoppedFlow}
use Rattle.kahn_reference.specs.declared.slow.Turn.{Turn}
use Rattle.kahn_reference.specs.declared.slow.Turn.TheVariants.{On, Over, Stopped as StoppedTurn}
use Rattle.kahn_model.specs.Behavior.{Behavior, Finished, OutOfTurns, Act, Await, ticks, trace_end}
use Rattle.kahn_model.specs.declared.tick.Action.{Action}
use Rattle.kahn_model.specs.declared.tick.Tick.{Tick}
use Rattle.kahn_model.specs.declared.tick.TraceEnd.{TraceEnd}
use Rattle.kahn_model.specs.declared.tick.StreamOperation.{StreamOperation}
use Rattle.kahn_model.specs.declared.tick.Action.TheVariants.{Local}
use Rattle.kahn_model.specs.declared.tick.Tick.TheVariants.{Did, End}
use Rattle.kahn_model.specs.declared.tick.TraceEnd.TheVariants.{Ended, Turns}
use Rattle.kahn_model.specs.Trace.{State, at_zero, expr, locals, stmt, block, statements, job_of, act_at, at_streams}
use Rattle.tapa_syntax.specs.LeafKinds.{Kinds}
use Rattle.kahn_reference.specs.Slow.{row_at, feed, whole, Point, GoesOn, Stops, GivesAnswer, GivesValue, GivesPair, GivesFlow, GivesTurn, inside, turn_of, loop_of, turn_left}

-- at the streams of an instance, from one point to another
abbrev pub Goes : (ℕ → ℕ) → Point → Behavior → Point → Behavior → Type 0
Goes f P a Q b = GoesOn P.ticks (at_streams f a) P.ins Q.ticks (at_streams f b) Q.ins

abbrev pub Ends : (ℕ → ℕ) → Point → Behavior → Point → TraceEnd → Type 0
Ends f P a Q m = Stops P.ticks (at_streams f a) P.ins Q.ticks m

pub trans : (f : ℕ → ℕ) (P M Q : Point) (a b c : Behavior) → Goes f P a M b → Goes f M b Q c → Goes f P a Q c
trans f P M Q a b c p q = record { ticks_are = p.ticks_are ∙ q.ticks_are; trace_end_is = p.trace_end_is ∙ q.trace_end_is }

pub ends : (f : ℕ → ℕ) (P M Q : Point) (a b : Behavior) (m : TraceEnd) → Goes f P a M b → Ends f M b Q m → Ends f P a Q m
ends f P M Q a b m p q = record { ticks_are = p.ticks_are ∙ q.ticks_are; trace_end_is = p.trace_end_is ∙ q.trace_end_is }

pub same : (f : ℕ → ℕ) (P : Point) (a b : Behavior) → a ≡ b → Goes f P a P b
same f P a b e = record { ticks_are = ap (λ t. P.ticks ++ ticks (at_streams f t) P.ins) e; trace_end_is = ap (λ t. trace_end (at_streams f t) P.ins) e }

pub tick : (f : ℕ → ℕ) (P Q : Point) (a : Action) (t : Behavior) → Q.ticks ≡ P.ticks ++ Did (act_at f a) ∷ [] → Q.ins ≡ P.ins → Goes f P (Act a t) Q t
tick f P Q a t e ei =
    let T = at_streams f t in
    record {
      ticks_are = sym (append_assoc P.ticks (Did (act_at f a) ∷ []) (ticks T P.ins)) ∙ ap (λ x. x ++ ticks T P.ins) (sym e) ∙ ap (λ o. Q.ticks ++ ticks T o) (sym ei);
      trace_end_is = ap (trace_end T) (sym ei);
    }

-- so many ticks
many : (f : ℕ → ℕ) (n : ℕ) (t : Behavior) (ins : ℕ → List Token) → ticks (at_streams f (locals n t)) ins ≡ replicate n (Did Local) ++ ticks (at_streams f t) ins
many f zero t ins = refl
many f (suc n) t ins = ap (λ x. Did Local ∷ x) (many f n t ins)

many_trace_end : (f : ℕ → ℕ) (n : ℕ) (t : Behavior) (ins : ℕ → List Token) → trace_end (at_streams f (locals n t)) ins ≡ trace_end (at_streams f t) ins
many_trace_end f zero t ins = refl
many_trace_end f (suc n) t ins = many_trace_end f n t ins

pub tick_times : (f : ℕ → ℕ) (P Q : Point) (n : ℕ) (t : Behavior) → Q.ticks ≡ P.ticks ++ replicate n (Did Local) → Q.ins ≡ P.ins → Goes f P (locals n t) Q t
tick_times f P Q n t e ei =
    let T = at_streams f t in
    record {
      ticks_are = ap (λ x. P.ticks ++ x) (many f n t P.ins) ∙ sym (append_assoc P.ticks (replicate n (Did Local)) (ticks T P.ins)) ∙ ap (λ x. x ++ ticks T P.ins) (sym e) ∙ ap (λ o. Q.ticks ++ ticks T o) (sym ei);
      trace_end_is = many_trace_end f n t P.ins ∙ ap (trace_end T) (sym ei);
    }

-- an operation at the position of its stream
pub asked_at : (f : ℕ → ℕ) (v : Value) (P Q : Point) (s p : ℕ) (how : StreamOperation) → s ≡ f p → GivesAnswer v P s how Q → GivesValue f v P (λ go. Await p how go) Q
asked_at f (Given v) P Q s p how e h = λ go. subst (λ x. GoesOn P.ticks (Await x how (λ v. at_streams f (go v))) P.ins Q.ticks (at_streams f (go v)) Q.ins) e (h (λ v. at_streams f (go v)))
asked_at f (Stopped m) P Q s p how e h = λ go. subst (λ x. Stops P.ticks (Await x how (λ v. at_streams f (go v))) P.ins Q.ticks m) e (h (λ v. at_streams f (go v)))

-- what goes on before a statement's flow
pub flow_after : (f : ℕ → ℕ) (x : Flow) (P M Q : Point) (a b : (State → Behavior) → (State → Behavior) → (State → Behavior) → Behavior) → ((go out again : State → Behavior) → Goes f P (a go out again) M (b go out again)) → GivesFlow f x M b Q → GivesFlow f x P a Q
flow_after f Next P M Q a b p q = λ go out again. trans f P M Q _ _ _ (p go out again) (q go out again)
flow_after f Out P M Q a b p q = λ go out again. trans f P M Q _ _ _ (p go out again) (q go out again)
flow_after f Again P M Q a b p q = λ go out again. trans f P M Q _ _ _ (p go out again) (q go out again)
flow_after f (StoppedFlow m) P M Q a b p q = λ go out again. ends f P M Q _ _ m (p go out again) (q go out again)

-- a block is the statements of its list
pub block_is : (K : Kinds) (n : ℕ) (l : _) (row : Row_of-Stmt l) (σ : State) (go out again : State → Behavior) → block K n row σ go out again ≡ statements K n (items-the_row-Stmt l row) σ go out again
block_is K n l end_of-Stmt σ go out again = refl
block_is K n l (more_of-Stmt s rest) σ go out again =
    ap (λ (k : State → Behavior). stmt K n s σ k out again) (fun_ext (λ σ'. block_is K n _ rest σ' go out again))

abbrev pub left_row : Stmt → (l : _) × Row_of-Stmt l
left_row (If' e p left q right) = (_, left)
left_row (Loop' e p left q right) = (_, left)
left_row _ = (_, end_of-Stmt)

abbrev pub right_row : Stmt → (l : _) × Row_of-Stmt l
right_row (If' e p left q right) = (_, right)
right_row (Loop' e p left q right) = (_, right)
right_row _ = (_, end_of-Stmt)

pub stmt_if : (K : Kinds) (n : ℕ) (e : Expr) (left right : Vec Stmt Global) (σ : State) (go out again : State → Behavior) → stmt K n (If e left right) σ go out again ≡ expr e σ (λ v. Act Local (at_zero v (statements K n right.items σ go out again) (statements K n left.items σ go out again)))
stmt_if K n e left right σ go out again =
    let r = right_row (If e left right) in
    let l = left_row (If e left right) in
    ap (λ x. expr e σ (λ v. Act Local (at_zero v x (block K n l.1 σ go out again)))) (block_is K n r.0 r.1 σ go out again ∙ ap (λ c. statements K n c σ go out again) (items_hidden-the_row-Stmt-0 right))
    ∙ ap (λ y. expr e σ (λ v. Act Local (at_zero v (statements K n right.items σ go out again) y))) (block_is K n l.0 l.1 σ go out again ∙ ap (λ c. statements K n c σ go out again) (items_hidden-the_row-Stmt-0 left))

-- a loop's statements, as lists
abbrev pub inside_items : Kinds → ℕ → List Stmt → List Stmt → State → (State → Behavior) → (State → Behavior) → Behavior
inside_items K n body step σ go next = statements K n body σ (λ σ'. statements K n step σ' next go next) go (λ σ'. statements K n step σ' next go next)

pub turn_is : (K : Kinds) (n : ℕ) (e : Expr) (body step : Vec Stmt Global) (σ : State) (go next : State → Behavior) → turn_of K n (Loop e body step) σ go next ≡ expr e σ (λ v. Act Local (at_zero v (go σ) (inside_items K n body.items step.items σ go next)))
turn_is K n e body step σ go next =
    let b = left_row (Loop e body step) in
    let s = right_row (Loop e body step) in
    let later : (λ (σ' : State). block K n s.1 σ' next go next) ≡ (λ (σ' : State). statements K n step.items σ' next go next) =
    fun_ext (λ σ'. block_is K n s.0 s.1 σ' next go next ∙ ap (λ c. statements K n c σ' next go next) (items_hidden-the_row-Stmt-0 step))
    in
    let all : inside K n b.1 s.1 σ go next ≡ inside_items K n body.items step.items σ go next =
    block_is K n b.0 b.1 σ _ go _
    ∙ ap (λ c. statements K n c σ (λ σ'. block K n s.1 σ' next go next) go (λ σ'. block K n s.1 σ' next go next)) (items_hidden-the_row-Stmt-0 body)
    ∙ ap (λ (k : State → Behavior). statements K n body.items σ k go k) later
    in
    ap (λ x. expr e σ (λ v. Act Local (at_zero v (go σ) x))) all

-- a loop is a turn and the rest of it
pub loop_turn : (K : Kinds) (n m : ℕ) (s : Stmt) (σ : State) (go out again : State → Behavior) → loop_of K n (suc m) s σ go out again ≡ turn_of K n s σ go (λ σ'. loop_of K n m s σ' go out again)
loop_turn K n m (Loop' e p body q step) σ go out again = refl
loop_turn K n m _ σ go out again = refl

pub loop_cut : (K : Kinds) (n : ℕ) (s : Stmt) (σ : State) (go out again : State → Behavior) → loop_of K n 0 s σ go out again ≡ OutOfTurns
loop_cut K n (Loop' e p body q step) σ go out again = refl
loop_cut K n _ σ go out again = refl

at_zero_code : (v : ℕ) (K : Kinds) (n : ℕ) (r l : List Stmt) (σ : State) (go out again : State → Behavior) → at_zero v (statements K n r σ go out again) (statements K n l σ go out again) ≡ statements K n (at_zero v r l) σ go out again
at_zero_code zero K n r l σ go out again = refl
at_zero_code (suc v) K n r l σ go out again = refl

at_zero_not : (v : ℕ) (a b : Behavior) → (v ≡ 0 → ⊥) → at_zero v a b ≡ b
at_zero_not zero a b d = absurd (d refl)
at_zero_not (suc v) a b d = refl

pub code_at_zero : (v : ℕ) (a b : List Stmt) → v ≡ 0 → at_zero v a b ≡ a
code_at_zero v a b e = ap (λ n. at_zero n a b) e

pub code_not_zero : (v : ℕ) (a b : List Stmt) → (v ≡ 0 → ⊥) → at_zero v a b ≡ b
code_not_zero zero a b d = absurd (d refl)
code_not_zero (suc v) a b d = refl

-- after the test of an `if`, with the tick of the test
pub if_begins : (f : ℕ → ℕ) (K : Kinds) (n : ℕ) (s : Stmt) (e : Expr) (left right : Vec Stmt Global) (code : List Stmt) (P M Q : Point) (x : Value) (v : ℕ) → s ≡ If e left right → x ≡ Given v → GivesValue f x P (λ go. expr e P.state go) M → Q.ticks ≡ M.ticks ++ Did Local ∷ [] → Q.ins ≡ M.ins → P.state ≡ Q.state → at_zero v right.items left.items ≡ code → (go out again : State → Behavior) → Goes f P (stmt K n s P.state go out again) Q (statements K n code Q.state go out again)
if_begins f K n s e left right code P M Q x v is ex given et ei es ec go out again =
    let σ = P.state in
    let k = λ (v : ℕ). Act Local (at_zero v (statements K n right.items σ go out again) (statements K n left.items σ go out again)) in
    let g : Goes f P (expr e σ k) M (k v) = subst (λ y. GivesValue f y P (λ go. expr e P.state go) M) ex given k in
    let T = at_zero v (statements K n right.items σ go out again) (statements K n left.items σ go out again) in
    trans f P P Q _ _ _ (same f P _ _ (ap (λ t. stmt K n t σ go out again) is ∙ stmt_if K n e left right σ go out again))
    (trans f P M Q _ (k v) _ g
    (trans f M Q Q (Act Local T) T _ (tick f M Q Local T et ei)
    (same f Q T _ (at_zero_code v K n right.items left.items σ go out again ∙ ap (λ c. statements K n c σ go out again) ec ∙ ap (λ s. statements K n code s go out again) es))))

-- after the test of a loop that holds
pub turn_begins : (f : ℕ → ℕ) (K : Kinds) (n : ℕ) (s : Stmt) (e : Expr) (body step : Vec Stmt Global) (code code2 : List Stmt) (P M Q : Point) (x : Value) (v : ℕ) → s ≡ Loop e body step → x ≡ Given v → GivesValue f x P (λ go. expr e P.state go) M → Q.ticks ≡ M.ticks ++ Did Local ∷ [] → Q.ins ≡ M.ins → P.state ≡ Q.state → body.items ≡ code → step.items ≡ code2 → (v ≡ 0 → ⊥) → (go next : State → Behavior) → Goes f P (turn_of K n s P.state go next) Q (inside_items K n code code2 Q.state go next)
turn_begins f K n s e body step code code2 P M Q x v is ex given et ei es eb ec d go next =
    let σ = P.state in
    let k = λ (v : ℕ). Act Local (at_zero v (go σ) (inside_items K n body.items step.items σ go next)) in
    let g : Goes f P (expr e σ k) M (k v) = subst (λ y. GivesValue f y P (λ go. expr e P.state go) M) ex given k in
    let X = inside_items K n body.items step.items σ go next in
    let T = at_zero v (go σ) X in
    trans f P P Q _ _ _ (same f P _ _ (ap (λ t. turn_of K n t σ go next) is ∙ turn_is K n e body step σ go next))
    (trans f P M Q _ (k v) _ g
    (trans f M Q Q (Act Local T) T _ (tick f M Q Local T et ei)
    (same f Q T _ (at_zero_not v (go σ) X d ∙ ap (λ c. inside_items K n c step.items σ go next) eb ∙ ap (λ c. inside_items K n code c σ go next) ec ∙ ap (λ s. inside_items K n code code2 s go next) es))))

-- a turn whose body is left by a break, or ends
pub turn_out : (f : ℕ → ℕ) (K : Kinds) (n : ℕ) (body step : List Stmt) (a : (State → Behavior) → (State → Behavior) → Behavior) (P M Q : Point) → ((go next : State → Behavior) → Goes f P (a go next) M (inside_items K n body step M.state go next)) → GivesFlow f Out M (statements K n body M.state) Q → GivesTurn f Over P a Q
turn_out f K n body step a P M Q p q = λ go next. trans f P M Q _ _ _ (p go next) (q _ go _)

pub turn_stops : (f : ℕ → ℕ) (K : Kinds) (n : ℕ) (body step : List Stmt) (a : (State → Behavior) → (State → Behavior) → Behavior) (m : TraceEnd) (P M Q : Point) → ((go next : State → Behavior) → Goes f P (a go next) M (inside_items K n body step M.state go next)) → GivesFlow f (StoppedFlow m) M (statements K n body M.state) Q → GivesTurn f (StoppedTurn m) P a Q
turn_stops f K n body step a m P M Q p q = λ go next. ends f P M Q _ _ m (p go next) (q _ go _)

-- a turn whose body is left for the step
turn_left_by : (f : ℕ → ℕ) (K : Kinds) (n : ℕ) (step : List Stmt) (a : (State → Behavior) → (State → Behavior) → Behavior) (P M Q : Point) (x : Flow) → ((go next : State → Behavior) → Goes f P (a go next) M (statements K n step M.state next go next)) → GivesFlow f x M (statements K n step M.state) Q → GivesTurn f (turn_left x) P a Q
turn_left_by f K n step a P M Q Next p q = λ go next. trans f P M Q _ _ _ (p go next) (q next go next)
turn_left_by f K n step a P M Q Out p q = λ go next. trans f P M Q _ _ _ (p go next) (q next go next)
turn_left_by f K n step a P M Q Again p q = λ go next. trans f P M Q _ _ _ (p go next) (q next go next)
turn_left_by f K n step a P M Q (StoppedFlow m) p q = λ go next. ends f P M Q _ _ m (p go next) (q next go next)

pub turn_next : (f : ℕ → ℕ) (K : Kinds) (n : ℕ) (body step : List Stmt) (a : (State → Behavior) → (State → Behavior) → Behavior) (P M N Q : Point) (x : Flow) → ((go next : State → Behavior) → Goes f P (a go next) M (inside_items K n body step M.state go next)) → GivesFlow f Next M (statements K n body M.state) N → GivesFlow f x N (statements K n step N.state) Q → GivesTurn f (turn_left x) P a Q
turn_next f K n body step a P M N Q x p q r = turn_left_by f K n step a P N Q x (λ go next. trans f P M N _ _ _ (p go next) (q _ go _)) r

pub turn_again : (f : ℕ → ℕ) (K : Kinds) (n : ℕ) (body step : List Stmt) (a : (State → Behavior) → (State → Behavior) → Behavior) (P M N Q : Point) (x : Flow) → ((go next : State → Behavior) → Goes f P (a go next) M (inside_items K n body step M.state go next)) → GivesFlow f Again M (statements K n body M.state) N → GivesFlow f x N (statements K n step N.state) Q → GivesTurn f (turn_left x) P a Q
turn_again f K n body step a P M N Q x p q r = turn_left_by f K n step a P N Q x (λ go next. trans f P M N _ _ _ (p go next) (q _ go _)) r

pub flow_at : (f : ℕ → ℕ) (x y : Flow) (P Q : Point) (a : (State → Behavior) → (State → Behavior) → (State → Behavior) → Behavior) → x ≡ y → GivesFlow f x P a Q → GivesFlow f y P a Q
flow_at f x y P Q a e h = subst (λ z. GivesFlow f z P a Q) e h

pub turn_at : (f : ℕ → ℕ) (x y : Turn) (P Q : Point) (a : (State → Behavior) → (State → Behavior) → Behavior) → x ≡ y → GivesTurn f x P a Q → GivesTurn f y P a Q
turn_at f x y P Q a e h = subst (λ z. GivesTurn f z P a Q) e h

-- one more statement of a list
pub block_step : (f : ℕ → ℕ) (K : Kinds) (n : ℕ) (A : Behavior) (l rest : List Stmt) (s : Stmt) (P M Q : Point) (go out again : State → Behavior) → Goes f P A M (statements K n l M.state go out again) → l ≡ s ∷ rest → GivesFlow f Next M (stmt K n s M.state) Q → Goes f P A Q (statements K n rest Q.state go out again)
block_step f K n A l rest s P M Q go out again p e q =
    trans f P M Q A (statements K n (s ∷ rest) M.state go out again) _
    (subst (λ x. Goes f P A M (statements K n x M.state go out again)) e p)
    (q (λ σ'. statements K n rest σ' go out again) out again)

pub block_leaves : (f : ℕ → ℕ) (K : Kinds) (n : ℕ) (code l rest : List Stmt) (s : Stmt) (P M Q : Point) (x : Flow) → (x ≡ Next → ⊥) → ((go out again : State → Behavior) → Goes f P (statements K n code P.state go out again) M (statements K n l M.state go out again)) → l ≡ s ∷ rest → GivesFlow f x M (stmt K n s M.state) Q → GivesFlow f x P (statements K n code P.state) Q
block_leaves f K n code l rest s P M Q Next d p e q = absurd (d refl)
block_leaves f K n code l rest s P M Q Out d p e q = λ go out again.
    trans f P M Q _ (statements K n (s ∷ rest) M.state go out again) _
    (subst (λ x. Goes f P (statements K n code P.state go out again) M (statements K n x M.state go out again)) e (p go out again))
    (q (λ σ'. statements K n rest σ' go out again) out again)
block_leaves f K n code l rest s P M Q Again d p e q = λ go out again.
    trans f P M Q _ (statements K n (s ∷ rest) M.state go out again) _
    (subst (λ x. Goes f P (statements K n code P.state go out again) M (statements K n x M.state go out again)) e (p go out again))
    (q (λ σ'. statements K n rest σ' go out again) out again)
block_leaves f K n code l rest s P M Q (StoppedFlow m) d p e q = λ go out again.
    ends f P M Q _ (statements K n (s ∷ rest) M.state go out again) m
    (subst (λ x. Goes f P (statements K n code P.state go out again) M (statements K n x M.state go out again)) e (p go out again))
    (q (λ σ'. statements K n rest σ' go out again) out again)

-- a loop's next turn
loop_goes : (f : ℕ → ℕ) (K : Kinds) (n m k : ℕ) (s : Stmt) (P : Point) → m ≡ suc k → (go out again : State → Behavior) → Goes f P (loop_of K n m s P.state go out again) P (turn_of K n s P.state go (λ σ'. loop_of K n k s σ' go out again))
loop_goes f K n m k s P e go out again = same f P _ _ (ap (λ x. loop_of K n x s P.state go out again) e ∙ loop_turn K n k s P.state go out again)

pub loop_ends : (f : ℕ → ℕ) (K : Kinds) (n m : ℕ) (s : Stmt) (P : Point) → m ≡ 0 → (go out again : State → Behavior) → Ends f P (loop_of K n m s P.state go out again) P Turns
loop_ends f K n m s P e go out again =
    let c = ap (λ x. loop_of K n x s P.state go out again) e ∙ loop_cut K n s P.state go out again in
    record { ticks_are = ap (λ t. P.ticks ++ ticks (at_streams f t) P.ins) c ∙ append-nil P.ticks; trace_end_is = ap (λ t. trace_end (at_streams f t) P.ins) c }

pub loop_on : (f : ℕ → ℕ) (K : Kinds) (n m k : ℕ) (A : Behavior) (s : Stmt) (P M Q : Point) (go out again : State → Behavior) → Goes f P A M (loop_of K n m s M.state go out again) → m ≡ suc k → GivesTurn f On M (turn_of K n s M.state) Q → Goes f P A Q (loop_of K n k s Q.state go out again)
loop_on f K n m k A s P M Q go out again p e q =
    trans f P M Q A _ _ p (trans f M M Q _ _ _ (loop_goes f K n m k s M e go out again) (q go (λ σ'. loop_of K n k s σ' go out again)))

pub loop_over : (f : ℕ → ℕ) (K : Kinds) (n m k : ℕ) (A : Behavior) (s : Stmt) (P M Q : Point) (go out again : State → Behavior) → Goes f P A M (loop_of K n m s M.state go out again) → m ≡ suc k → GivesTurn f Over M (turn_of K n s M.state) Q → Goes f P A Q (go Q.state)
loop_over f K n m k A s P M Q go out again p e q =
    trans f P M Q A _ _ p (trans f M M Q _ _ _ (loop_goes f K n m k s M e go out again) (q go (λ σ'. loop_of K n k s σ' go out again)))

pub loop_stops : (f : ℕ → ℕ) (K : Kinds) (n m k : ℕ) (A : Behavior) (s : Stmt) (x : TraceEnd) (P M Q : Point) (go out again : State → Behavior) → Goes f P A M (loop_of K n m s M.state go out again) → m ≡ suc k → GivesTurn f (StoppedTurn x) M (turn_of K n s M.state) Q → Ends f P A Q x
loop_stops f K n m k A s x P M Q go out again p e q =
    ends f P M Q A _ x p (ends f M M Q _ _ x (loop_goes f K n m k s M e go out again) (q go (λ σ'. loop_of K n k s σ' go out again)))

-- a statement that computes two values and makes one tick
pub pair_tick : (f : ℕ → ℕ) (P M Q : Point) (A B : Behavior) (a : (ℕ → ℕ → Behavior) → Behavior) (k : ℕ → ℕ → Behavior) (x : Pair) (v w : ℕ) (act : Action) (t : Behavior) → A ≡ a k → x ≡ GivenPair v w → GivesPair f x P a M → k v w ≡ Act act t → Q.ticks ≡ M.ticks ++ Did (act_at f act) ∷ [] → Q.ins ≡ M.ins → t ≡ B → Goes f P A Q B
pair_tick f P M Q A B a k x v w act t ea ex given ek et ei eb =
    let g : Goes f P (a k) M (k v w) = subst (λ y. GivesPair f y P a M) ex given k in
    trans f P P Q _ _ _ (same f P A (a k) ea)
    (trans f P M Q _ (k v w) _ g
    (trans f M M Q _ (Act act t) _ (same f M _ _ ek)
    (trans f M Q Q (Act act t) t _ (tick f M Q act t et ei) (same f Q t B eb))))

pub pair_stops : (f : ℕ → ℕ) (P M : Point) (A : Behavior) (a : (ℕ → ℕ → Behavior) → Behavior) (k : ℕ → ℕ → Behavior) (x : Pair) (m : TraceEnd) → A ≡ a k → x ≡ StoppedPair m → GivesPair f x P a M → Ends f P A M m
pair_stops f P M A a k x m ea ex given = ends f P P M _ _ m (same f P A (a k) ea) (subst (λ y. GivesPair f y P a M) ex given k)

pub value_tick : (f : ℕ → ℕ) (P M Q : Point) (A B : Behavior) (a : (ℕ → Behavior) → Behavior) (k : ℕ → Behavior) (x : Value) (v : ℕ) (act : Action) (t : Behavior) → A ≡ a k → x ≡ Given v → GivesValue f x P a M → k v ≡ Act act t → Q.ticks ≡ M.ticks ++ Did (act_at f act) ∷ [] → Q.ins ≡ M.ins → t ≡ B → Goes f P A Q B
value_tick f P M Q A B a k x v act t ea ex given ek et ei eb =
    let g : Goes f P (a k) M (k v) = subst (λ y. GivesValue f y P a M) ex given k in
    trans f P P Q _ _ _ (same f P A (a k) ea)
    (trans f P M Q _ (k v) _ g
    (trans f M M Q _ (Act act t) _ (same f M _ _ ek)
    (trans f M Q Q (Act act t) t _ (tick f M Q act t et ei) (same f Q t B eb))))

pub value_stops : (f : ℕ → ℕ) (P M : Point) (A : Behavior) (a : (ℕ → Behavior) → Behavior) (k : ℕ → Behavior) (x : Value) (m : TraceEnd) → A ≡ a k → x ≡ Stopped m → GivesValue f x P a M → Ends f P A M m
value_stops f P M A a k x m ea ex given = ends f P P M _ _ m (same f P A (a k) ea) (subst (λ y. GivesValue f y P a M) ex given k)

pub value_goes : (f : ℕ → ℕ) (P M : Point) (A B : Behavior) (a : (ℕ → Behavior) → Behavior) (k : ℕ → Behavior) (x : Value) (v : ℕ) → A ≡ a k → x ≡ Given v → GivesValue f x P a M → k v ≡ B → Goes f P A M B
value_goes f P M A B a k x v ea ex given eb =
    let g : Goes f P (a k) M (k v) = subst (λ y. GivesValue f y P a M) ex given k in
    trans f P P M _ _ _ (same f P A (a k) ea) (trans f P M M _ (k v) _ g (same f M _ _ eb))

-- no token is taken at the start
pub feed_whole : (lists : List (Vec Token Global)) (n : ℕ) → feed lists (replicate n zero) ≡ whole lists
feed_whole lists n = fun_ext (λ s. ap (λ k. drop k (row_at (slice_get lists s))) (none_taken n s))
  where
    none_taken : (n s : ℕ) → get_or {A = ℕ} (replicate n zero) s zero ≡ zero
    none_taken zero s = refl
    none_taken (suc n) zero = refl
    none_taken (suc n) (suc s) = none_taken n s

pub trace_stops : (f : ℕ → ℕ) (K : Kinds) (n : ℕ) (code : List Stmt) (P Q : Point) (whole_ins : ℕ → List Token) (x : Flow) (m : TraceEnd) → P.ticks ≡ [] → P.ins ≡ whole_ins → x ≡ StoppedFlow m → GivesFlow f x P (statements K n code P.state) Q → (Q.ticks ≡ ticks (at_streams f (job_of K code P.state n)) whole_ins) × (m ≡ trace_end (at_streams f (job_of K code P.state n)) whole_ins)
trace_stops f K n code P Q whole_ins x m eb ei ef h =
    let p : Ends f P (job_of K code P.state n) Q m = flow_at f x (StoppedFlow m) P Q (statements K n code P.state) ef h (λ q. Finished) (λ q. Finished) (λ q. Finished) in
    let t = at_streams f (job_of K code P.state n) in (
      sym p.ticks_are ∙ ap (λ b. b ++ ticks t P.ins) eb ∙ ap (ticks t) ei,
      sym p.trace_end_is ∙ ap (trace_end t) ei,
    )

pub trace_ends : (f : ℕ → ℕ) (K : Kinds) (n : ℕ) (code : List Stmt) (P Q : Point) (late : List Tick) (whole_ins : ℕ → List Token) (x : Flow) → P.ticks ≡ [] → P.ins ≡ whole_ins → ((m : TraceEnd) → x ≡ StoppedFlow m → ⊥) → late ≡ Q.ticks ++ End ∷ [] → GivesFlow f x P (statements K n code P.state) Q → (late ≡ ticks (at_streams f (job_of K code P.state n)) whole_ins) × (Ended ≡ trace_end (at_streams f (job_of K code P.state n)) whole_ins)
trace_ends f K n code P Q late whole_ins x eb ei d el h =
    let t = at_streams f (job_of K code P.state n) in
    let p = go x d h in (
      el ∙ sym p.0 ∙ ap (λ b. b ++ ticks t P.ins) eb ∙ ap (ticks t) ei,
      sym p.1 ∙ ap (trace_end t) ei,
    )
  where
    finish : Goes f P (job_of K code P.state n) Q Finished → (P.ticks ++ ticks (at_streams f (job_of K code P.state n)) P.ins ≡ Q.ticks ++ End ∷ []) × (trace_end (at_streams f (job_of K code P.state n)) P.ins ≡ Ended)
    finish p = (p.ticks_are, p.trace_end_is)

    go : (x : Flow) → ((m : TraceEnd) → x ≡ StoppedFlow m → ⊥) → GivesFlow f x P (statements K n code P.state) Q → (P.ticks ++ ticks (at_streams f (job_of K code P.state n)) P.ins ≡ Q.ticks ++ End ∷ []) × (trace_end (at_streams f (job_of K code P.state n)) P.ins ≡ Ended)
    go Next d h = finish (h (λ q. Finished) (λ q. Finished) (λ q. Finished))
    go Out d h = finish (h (λ q. Finished) (λ q. Finished) (λ q. Finished))
    go Again d h = finish (h (λ q. Finished) (λ q. Finished) (λ q. Finished))
    go (StoppedFlow m) d h = absurd (d m refl)
