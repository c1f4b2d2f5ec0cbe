-- A leaf that is typed, at a state and on lists of its kinds, refuses nothing.
use Rattle.std.proofs.Common.{◌≡◌, ℕ, zero, suc, ◌<◌, List, ◌∷◌, length, get_or, Some, refl, sym, ap, ◌∙◌, subst, ⊎_elim, arith}
use Rattle.std.specs.Prelude.{◌==◌, if◌then◌else◌, slice_get, All, Vec, Result, Ok, Err, IsErrAnd, IsErrOf}
use Rattle.std.specs.declared.alloc.Global.{Global}
use Rattle.std.proofs.lemmas.Bool.{cases_eq}
use Rattle.std.proofs.lemmas.Bool.Decides.{nat_tests}
use Rattle.std.proofs.lemmas.List.Elements.{All-get_or}
use Rattle.std.proofs.lemmas.Nat.{pow_pos}
use Rattle.std.proofs.lemmas.Option.{slice_get-get_or}
use Rattle.tapa_base.specs.declared.kind.Kind.{Kind}
use Rattle.tapa_base.specs.declared.kind.Kind.TheVariants as kind
use Rattle.tapa_base.specs.declared.op.Op.{Op}
use Rattle.tapa_base.specs.declared.op.Op.TheVariants as op
use Rattle.tapa_base.specs.declared.token.Token.{Token}
use Rattle.tapa_base.specs.declared.token.Token.TheVariants.{Datum, Eot as EotToken}
use Rattle.tapa_base.specs.Kinds.{bits_of, values_of, converted}
use Rattle.tapa_base.specs.Operators.{CanApply, applied}
use Rattle.tapa_syntax.specs.declared.program.Expr.{Expr}
use Rattle.tapa_syntax.specs.declared.program.Expr.TheVariants.{Lit, Var, Cell', Read, Peek, Eot, Load' as LoadCell, Conv', Apply', Flip', Not', And', Or', Choose'}
use Rattle.tapa_syntax.specs.declared.program.Stmt.{Stmt, Row_of-Stmt, end_of-Stmt, more_of-Stmt, If, Loop, items-the_row-Stmt, items_hidden-the_row-Stmt-0}
use Rattle.tapa_syntax.specs.LeafKinds.{Kinds}
use Rattle.tapa_syntax.specs.Typed.{HasKind, MayDivide, IsConstant, constant, by_zero, IsTyped, AreTyped, IsTypedCode, right_kind}
use Rattle.tapa_syntax.proofs.Values.{applied_fits, converted_fits}
use Rattle.kahn_model.specs.declared.tick.StreamOperation.{StreamOperation}
use Rattle.kahn_model.specs.declared.tick.TraceEnd.TheVariants.{Ended, Turns}
use Rattle.kahn_model.specs.declared.tick.StreamOperation.TheVariants.{Read as ByRead, Peek as ByPeek, TestEot, Open as ByOpen}
use Rattle.kahn_model.specs.Behavior.{Behavior, Finished, OutOfTurns, Answer, judge_token, trace_end}
use Rattle.kahn_model.specs.Fits.{IsTokenOf, IsFitState}
use Rattle.kahn_model.specs.Trace.{State, at_zero, expr, at_streams, set_var, set_cell, store_cell, cell}
use Rattle.kahn_model.proofs.Fits.{read_value, peek_value, eot_value, fit_var, fit_cell, fit_store}
use Rattle.kahn_reference.specs.declared.slow.Fault.{Fault}
use Rattle.kahn_reference.specs.declared.slow.Fault.TheVariants.{NotOfItsKind, OutOfMemory}
use Rattle.kahn_reference.specs.declared.slow.Variables.{Variables}
use Rattle.kahn_reference.specs.declared.slow.Value.{Value}
use Rattle.kahn_reference.specs.declared.slow.Value.TheVariants.{Given}
use Rattle.kahn_reference.specs.declared.slow.Pair.{Pair}
use Rattle.kahn_reference.specs.declared.slow.Pair.TheVariants.{Given as GivenPair}
use Rattle.kahn_reference.specs.declared.slow.Flow.{Flow}
use Rattle.kahn_reference.specs.declared.slow.Flow.TheVariants.{Next, Out, Again, Stopped as StoppedFlow}
use Rattle.kahn_reference.specs.declared.slow.Turn.{Turn}
use Rattle.kahn_reference.specs.Kept.{StandsFit, answer_kind, IsValueOf, IsPairOf, FlowFits, TurnFits}
use Rattle.kahn_reference.specs.Slow.{row_at, whole, state_of, Point, GoesOn, GivesValue, GivesPair, turn_left}
use Rattle.kahn_reference.proofs.SlowFlows.{left_row, right_row}

-- ---- what is carried along
pub given : (k : Kind) (x : Value) (v : ℕ) → x ≡ Given v → IsValueOf k x → v < values_of k
given k x v e h = subst (IsValueOf k) e h

pub given_pair : (j k : Kind) (x : Pair) (v w : ℕ) → x ≡ GivenPair v w → IsPairOf j k x → (v < values_of j) × (w < values_of k)
given_pair j k x v w e h = subst (IsPairOf j k) e h

pub flow_fits : (K : Kinds) (σ : State) (x y : Flow) → x ≡ y → FlowFits K σ x → FlowFits K σ y
flow_fits K σ x y e h = subst (FlowFits K σ) e h

pub turn_fits : (K : Kinds) (σ : State) (x y : Turn) → x ≡ y → TurnFits K σ x → TurnFits K σ y
turn_fits K σ x y e h = subst (TurnFits K σ) e h

-- the turn that a loop's step leaves
pub turn_of_flow : (K : Kinds) (σ : State) (x : Flow) → FlowFits K σ x → TurnFits K σ (turn_left x)
turn_of_flow K σ Next h = h
turn_of_flow K σ Out h = h
turn_of_flow K σ Again h = h
turn_of_flow K σ (StoppedFlow m) h = tt

-- a state that did not change
pub stays : (K : Kinds) (a b : Variables) → b ≡ a → IsFitState K (state_of a) → IsFitState K (state_of b)
stays K a b e h = subst (λ s. IsFitState K (state_of s)) (sym e) h

pub still : (K : Kinds) (streams : List ℕ) (lists : List (Vec Token Global)) (a b : Variables) → b ≡ a → StandsFit K streams lists (state_of a) → StandsFit K streams lists (state_of b)
still K streams lists a b e h = subst (λ s. StandsFit K streams lists (state_of s)) (sym e) h

-- another state that fits
pub stands : (K : Kinds) (streams : List ℕ) (lists : List (Vec Token Global)) (σ τ : State) → StandsFit K streams lists σ → IsFitState K τ → StandsFit K streams lists τ
stands K streams lists σ τ h g = record { state = g; tokens = h.tokens }

pub out_of_memory : {A : Type 0} (r : Result A Fault) → IsErrAnd r (λ y. y ≡ OutOfMemory) → IsErrOf r NotOfItsKind → ⊥
out_of_memory (Ok x) a e = absurd a
out_of_memory (Err y) a e = let same : y ≡ NotOfItsKind = cc in absurd (cc)

-- a refusal that is handed on
pub refused : {B : Type 0} (s : Result B Fault) (fault : Fault) → IsErrAnd s (λ y. y ≡ fault) → (fault ≡ NotOfItsKind → ⊥) → IsErrOf s NotOfItsKind → ⊥
refused (Ok x) fault a h e = absurd a
refused (Err y) fault a h e = let same : y ≡ NotOfItsKind = cc in h (sym a ∙ same)

-- ---- operations on streams
open_value : (k : Kind) (t : Token) (v : ℕ) → judge_token ByOpen t ≡ Answer t v → v < values_of k
open_value k (Datum d) v e = absurd (cc)
open_value k EotToken v e = let same : 0 ≡ v = cc in subst (λ x. x < values_of k) same (pow_pos (bits_of k))

pub answered : (how : StreamOperation) (k : Kind) (t : Token) (v : ℕ) → IsTokenOf k t → judge_token how t ≡ Answer t v → v < values_of (answer_kind how k)
answered ByRead k t v h e = read_value k t v h e
answered ByPeek k t v h e = peek_value k t v h e
answered TestEot k t v h e = eot_value t v e
answered ByOpen k t v h e = open_value k t v e

pub token_fits : (lists : List (Vec Token Global)) (s at : ℕ) (v : Vec Token Global) (t : Token) (k : Kind) → s < length lists → v ≡ get_or lists s v → at < length v.items → t ≡ get_or v.items at t → All (IsTokenOf k) (whole lists s) → IsTokenOf k t
token_fits lists s at v t k h ev l et all =
    let there : slice_get lists s ≡ Some v = slice_get-get_or lists s v h ∙ ap Some (sym ev) in
    let items : All (IsTokenOf k) v.items = subst (λ o. All (IsTokenOf k) (row_at o)) there all in
    subst (IsTokenOf k) (sym et) (All-get_or (IsTokenOf k) v.items at t l items)

-- ---- operators
bool_below : (k : Kind) (x : ℕ) → x < values_of kind.Bool → x < values_of k
bool_below kind.Bool x h = h
bool_below kind.I8 x h = omega arith
bool_below kind.U8 x h = omega arith
bool_below kind.I16 x h = omega arith
bool_below kind.U16 x h = omega arith
bool_below kind.I32 x h = omega arith
bool_below kind.U32 x h = omega arith
bool_below kind.I64 x h = omega arith
bool_below kind.U64 x h = omega arith

pub applied_below : (o : Op) (k : Kind) (a b : ℕ) → a < values_of k → b < values_of (right_kind o k) → applied o k a b < values_of k
applied_below op.Add k a b l r = applied_fits op.Add k a b l r
applied_below op.Sub k a b l r = applied_fits op.Sub k a b l r
applied_below op.Mul k a b l r = applied_fits op.Mul k a b l r
applied_below op.Div k a b l r = applied_fits op.Div k a b l r
applied_below op.Rem k a b l r = applied_fits op.Rem k a b l r
applied_below op.And k a b l r = applied_fits op.And k a b l r
applied_below op.Or k a b l r = applied_fits op.Or k a b l r
applied_below op.Xor k a b l r = applied_fits op.Xor k a b l r
applied_below op.Shl k a b l r = applied_fits op.Shl k a b l r
applied_below op.Shr k a b l r = applied_fits op.Shr k a b l r
applied_below op.Eq k a b l r = bool_below k _ (applied_fits op.Eq k a b l r)
applied_below op.Ne k a b l r = bool_below k _ (applied_fits op.Ne k a b l r)
applied_below op.Lt k a b l r = bool_below k _ (applied_fits op.Lt k a b l r)
applied_below op.Le k a b l r = bool_below k _ (applied_fits op.Le k a b l r)
applied_below op.Gt k a b l r = bool_below k _ (applied_fits op.Gt k a b l r)
applied_below op.Ge k a b l r = bool_below k _ (applied_fits op.Ge k a b l r)

divisor : (e : Expr) (v : ℕ) → IsConstant e × (0 < constant e) → (IsConstant e → v ≡ constant e) → 0 < v
divisor e v d c = subst (λ x. 0 < x) (sym (c d.0)) d.1

pub can_apply : (o : Op) (k : Kind) (e : Expr) (v : ℕ) → MayDivide o e → (IsConstant e → v ≡ constant e) → v < values_of (right_kind o k) → CanApply o k v
can_apply op.Add k e v d c h = h
can_apply op.Sub k e v d c h = h
can_apply op.Mul k e v d c h = h
can_apply op.Div k e v d c h = (divisor e v d c, h)
can_apply op.Rem k e v d c h = (divisor e v d c, h)
can_apply op.And k e v d c h = h
can_apply op.Or k e v d c h = h
can_apply op.Xor k e v d c h = h
can_apply op.Shl k e v d c h = tt
can_apply op.Shr k e v d c h = tt
can_apply op.Eq k e v d c h = h
can_apply op.Ne k e v d c h = h
can_apply op.Lt k e v d c h = h
can_apply op.Le k e v d c h = h
can_apply op.Gt k e v d c h = h
can_apply op.Ge k e v d c h = h

-- ---- constants
chosen_same : (v a b : ℕ) → at_zero v b a ≡ by_zero v b a
chosen_same zero a b = refl
chosen_same (suc v) a b = refl

-- an expression of literals, operators and conversions alone goes on with its value
constant_goes : (e : Expr) (σ : State) (f : ℕ → Behavior) → IsConstant e → expr e σ f ≡ f (constant e)
constant_goes (Lit k n) σ f h = refl
constant_goes (Var x) σ f h = absurd h
constant_goes (Cell' a p e) σ f h = absurd h
constant_goes (Read s) σ f h = absurd h
constant_goes (Peek s) σ f h = absurd h
constant_goes (Eot s) σ f h = absurd h
constant_goes (LoadCell m p e) σ f h = absurd h
constant_goes (Conv' from to p e) σ f h = constant_goes e σ _ h
constant_goes (Apply' o k p l q r) σ f h = constant_goes l σ _ h.0 ∙ constant_goes r σ _ h.1
constant_goes (Flip' k p e) σ f h = constant_goes e σ _ h
constant_goes (Not' p e) σ f h = constant_goes e σ _ h
constant_goes (And' p l q r) σ f h = constant_goes l σ _ h.0 ∙ constant_goes r σ _ h.1
constant_goes (Or' p l q r) σ f h = constant_goes l σ _ h.0 ∙ constant_goes r σ _ h.1
constant_goes (Choose' p e q a r b) σ f h =
    constant_goes e σ _ h.0 ∙ constant_goes a σ _ h.1 ∙ constant_goes b σ _ h.2 ∙ ap f (chosen_same (constant e) (constant a) (constant b))

-- a behavior that tells a number
abbrev told : ℕ → ℕ → Behavior
told w v = if w == v then Finished else OutOfTurns

told_same : (w : ℕ) → told w w ≡ Finished
told_same w = grind (arith, nat_tests)

told_other : (w v : ℕ) → (w ≡ v → ⊥) → told w v ≡ OutOfTurns
told_other w v d = grind (arith, nat_tests)

told_is : (f : ℕ → ℕ) (w v : ℕ) (ins : ℕ → List Token) → trace_end (at_streams f (told w v)) ins ≡ Ended → v ≡ w
told_is f w v ins h =
    ⊎_elim
    (λ (e : w ≡ v). sym e)
    (λ (d : w ≡ v → ⊥).
    let end : Turns ≡ Ended = subst (λ t. trace_end (at_streams f t) ins ≡ Ended) (told_other w v d) h in
    absurd (cc))
    (cases_eq w v)

pub value_constant : (f : ℕ → ℕ) (P Q : Point) (e : Expr) (σ : State) (x : Value) (v : ℕ) → x ≡ Given v → GivesValue f x P (λ go. expr e σ go) Q → IsConstant e → v ≡ constant e
value_constant f P Q e σ x v is h k =
    let w = constant e in
    let one : GoesOn P.ticks (at_streams f (expr e σ (told w))) P.ins Q.ticks (at_streams f (told w v)) Q.ins = subst (λ y. GivesValue f y P (λ go. expr e σ go) Q) is h (told w) in
    told_is f w v Q.ins (sym one.trace_end_is ∙ ap (λ t. trace_end (at_streams f t) P.ins) (constant_goes e σ (told w) k ∙ told_same w))

pub pair_constant : (f : ℕ → ℕ) (P Q : Point) (e index : Expr) (σ : State) (x : Pair) (v i : ℕ) → x ≡ GivenPair v i → GivesPair f x P (λ go. expr e σ (λ a. expr index σ (go a))) Q → IsConstant e → v ≡ constant e
pair_constant f P Q e index σ x v i is h k =
    let w = constant e in
    let ends = λ (t : Behavior). trace_end (at_streams f t) P.ins in
    let all : GoesOn P.ticks (at_streams f (expr e σ (λ a. expr index σ (λ b. Finished)))) P.ins Q.ticks (at_streams f Finished) Q.ins = subst (λ y. GivesPair f y P (λ go. expr e σ (λ a. expr index σ (go a))) Q) is h (λ a b. Finished) in
    let one : GoesOn P.ticks (at_streams f (expr e σ (λ a. expr index σ (λ b. told w a)))) P.ins Q.ticks (at_streams f (told w v)) Q.ins = subst (λ y. GivesPair f y P (λ go. expr e σ (λ a. expr index σ (go a))) Q) is h (λ a b. told w a) in
    told_is f w v Q.ins
    (sym one.trace_end_is
    ∙ ap ends (constant_goes e σ (λ a. expr index σ (λ b. told w a)) k ∙ ap (λ (t : Behavior). expr index σ (λ b. t)) (told_same w))
    ∙ sym (ap ends (constant_goes e σ (λ a. expr index σ (λ b. Finished)) k))
    ∙ all.trace_end_is)

-- ---- states after a statement
pub old_cell : (K : Kinds) (a b : Variables) (own : Kind) (r i old : ℕ) → b ≡ a → own ≡ K.arrays r → old ≡ cell (state_of b).arrays r i → IsFitState K (state_of a) → old < values_of own
old_cell K a b own r i old e eo ev h =
    subst (λ k. old < values_of k) (sym eo) (subst (λ x. x < values_of (K.arrays r)) (sym ev) ((stays K a b e h).arrays r i))

pub old_word : (K : Kinds) (a b : Variables) (own : Kind) (m i old : ℕ) → b ≡ a → own ≡ K.memories m → old ≡ cell (state_of b).cells m i → IsFitState K (state_of a) → old < values_of own
old_word K a b own m i old e eo ev h =
    subst (λ k. old < values_of k) (sym eo) (subst (λ x. x < values_of (K.memories m)) (sym ev) ((stays K a b e h).cells m i))

pub converted_below : (from own k : Kind) (x w : ℕ) → w ≡ converted from own x → own ≡ k → w < values_of k
converted_below from own k x w e eo = subst (λ j. w < values_of j) eo (subst (λ y. y < values_of own) (sym e) (converted_fits from own x))

pub set_var_fits : (K : Kinds) (a b d : Variables) (x v : ℕ) → b ≡ a → state_of d ≡ set_var (state_of b) x v → IsFitState K (state_of a) → v < values_of (K.vars x) → IsFitState K (state_of d)
set_var_fits K a b d x v e is h l = subst (IsFitState K) (sym is) (fit_var K (state_of b) x v (stays K a b e h) l)

pub set_cell_fits : (K : Kinds) (a b d : Variables) (r i v : ℕ) → b ≡ a → state_of d ≡ set_cell (state_of b) r i v → IsFitState K (state_of a) → v < values_of (K.arrays r) → IsFitState K (state_of d)
set_cell_fits K a b d r i v e is h l = subst (IsFitState K) (sym is) (fit_cell K (state_of b) r i v (stays K a b e h) l)

pub store_fits : (K : Kinds) (a b d : Variables) (m i v : ℕ) → b ≡ a → state_of d ≡ store_cell (state_of b) m i v → IsFitState K (state_of a) → v < values_of (K.memories m) → IsFitState K (state_of d)
store_fits K a b d m i v e is h l = subst (IsFitState K) (sym is) (fit_store K (state_of b) m i v (stays K a b e h) l)

-- ---- statements in statements
typed_items : (K : Kinds) (l : _) (row : Row_of-Stmt l) → AreTyped K row → IsTypedCode K (items-the_row-Stmt l row)
typed_items K l end_of-Stmt h = tt
typed_items K l (more_of-Stmt s rest) h = (h.0, typed_items K _ rest h.1)

pub typed_if : (K : Kinds) (e : Expr) (left right : Vec Stmt Global) → IsTyped K (If e left right) → HasKind K e kind.Bool × IsTypedCode K left.items × IsTypedCode K right.items
typed_if K e left right h =
    let l = left_row (If e left right) in
    let r = right_row (If e left right) in
    (h.0, subst (IsTypedCode K) (items_hidden-the_row-Stmt-0 left) (typed_items K l.0 l.1 h.1), subst (IsTypedCode K) (items_hidden-the_row-Stmt-0 right) (typed_items K r.0 r.1 h.2))

pub typed_loop : (K : Kinds) (e : Expr) (body step : Vec Stmt Global) → IsTyped K (Loop e body step) → HasKind K e kind.Bool × IsTypedCode K body.items × IsTypedCode K step.items
typed_loop K e body step h =
    let b = left_row (Loop e body step) in
    let s = right_row (Loop e body step) in
    (h.0, subst (IsTypedCode K) (items_hidden-the_row-Stmt-0 body) (typed_items K b.0 b.1 h.1), subst (IsTypedCode K) (items_hidden-the_row-Stmt-0 step) (typed_items K s.0 s.1 h.2))

pub typed_next : (K : Kinds) (l rest : List Stmt) (s : Stmt) → l ≡ s ∷ rest → IsTypedCode K l → IsTyped K s × IsTypedCode K rest
typed_next K l rest s e h = subst (IsTypedCode K) e h
