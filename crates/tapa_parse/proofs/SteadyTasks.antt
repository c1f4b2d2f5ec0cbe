-- The readers of tasks and files are steady.
use Rattle.std.proofs.Common.{◌≡◌, inl, inr, ℕ, zero, suc, ◌<◌, ◌≤◌, Bool, true, false, cond, List, [], ◌∷◌, ◌++◌, length, drop, Option, Some, None, Ok, Err, refl, sym, subst, ◌∙◌, arith}
use Rattle.std.specs.Prelude.{◌||◌, if◌then◌else◌}
use Rattle.tapa_base.specs.declared.kind.Kind.TheVariants as kind
use Rattle.tapa_base.specs.declared.text.Place.{Place}
use Rattle.tapa_base.specs.Spans.{◌⨾◌, ◌∣◌, Nothing, Maybe, Each}
use Rattle.tapa_syntax.specs.declared.terminal.Terminal.{Terminal}
use Rattle.tapa_syntax.specs.declared.terminal.Terminal.TheVariants as terminal
use Rattle.tapa_syntax.specs.declared.tree.Name.{Name}
use Rattle.tapa_syntax.specs.declared.tree.Parameter.{Parameter}
use Rattle.tapa_syntax.specs.declared.tree.Parameter.TheVariants as parameter_form
use Rattle.tapa_syntax.specs.Trees.{CountTree, AttributeTree, StreamTree, InvocationTree, BodyTree, leaf, upper, TaskTree, constant, task, nullptr, no_statement, statements}
use Rattle.tapa_syntax.specs.Grammar.{Part, Takes, May, IsName, IsPlainName, IsType, expression_level, IsCount, IsAttribute, IsParameter, MayBeLabelled, IsStream, IsArgument, IsMode, IsInvocation, IsBody, IsItem}
use Rattle.tapa_parse_expression.specs.declared.fault.ParseCode.TheVariants.{P1}
use Rattle.tapa_parse_expression.specs.Readers.{Outcome, Reader, and_then, next, first_place, same, sees, skip, expect, name, plain_name, pure, refuse, is_left, ended, repeat_from, repeat_behind, separated, ◌>>=◌, ◌>>◌}
use Rattle.tapa_parse_expression.specs.Reading.{Readers, type_name, whole, attributes, counted, statements_with, below_levels}
use Rattle.tapa_parse.specs.Reading.{stream_kind, port_by, port, scalar, parameter, parameters, stream_name, mode, invocation_argument, invocation_arguments, constant_word, depth, stream, invocation, chained, invocations, streams, body, task_behind, constant_behind, item, file}
use Rattle.tapa_parse_expression.proofs.Parts.{Symbols, is_end, if_true, if_false, sees_is}
use Rattle.tapa_parse_expression.proofs.SoundExpressions.{MayBe}
use Rattle.tapa_parse_expression.proofs.CompleteTypes.{takes_longer, type_longer}
use Rattle.tapa_parse_expression.proofs.Fronts.{Steady, gives, refuses, Full, Any, MaySteady, front_none, full_of, full_then, full_takes, full_name, no_name, steady_map, steady_as, steady_then, then_steady, steady_value, steady_pure, steady_by, steady_at, steady_test, steady_sees, steady_refuse, steady_expect, steady_eat, steady_name, steady_plain, steady_skips, steady_open, spelled_of}
use Rattle.tapa_parse_expression.proofs.SteadyLists.{Many, full_many, IsLoop, Longer, loop_steady, and_then_again, all_read, collect, more_of, separated_of, listed_of, some_of, steady_repeat, steady_more, steady_separated, steady_separated_until, looks_sees}
use Rattle.tapa_parse_expression.proofs.SteadyTypes.{steady_type, full_type}
use Rattle.tapa_parse_expression.proofs.SteadyExpressions.{AnyExpression}
use Rattle.tapa_parse.proofs.SoundLevels.{Sound}
use Rattle.tapa_parse.proofs.SoundStatements.{levels_sound}
use Rattle.tapa_parse.proofs.SoundTasks.{starts}
use Rattle.tapa_parse.proofs.CompleteLengths.{maybe_longer, behind_longer, separated_longer}
use Rattle.tapa_parse.proofs.CompleteTasks.{parameter_longer, stream_name_longer, count_longer, argument_longer, invocation_longer}
use Rattle.tapa_parse.proofs.CompleteFiles.{item_longer}
use Rattle.tapa_parse.proofs.SteadyActions.{AllSteady, full_map, any_longer, may_when, steady_whole, steady_counted, steady_attributes}
use Rattle.tapa_parse.proofs.SteadyStatements.{Statement, steady_statements, statements_tree, levels_steady}

-- ---- parameters

abbrev StreamKind : Part
StreamKind = Takes terminal.Less ⨾ (Any IsType ⨾ (Takes terminal.Greater ⨾ Takes terminal.Ampersand))

steady_stream_kind : (m : Terminal) (i : Symbols) → is_end m ≡ false → next i ≡ m → Steady (Takes m ⨾ StreamKind) stream_kind i
unfolding stream_kind
steady_stream_kind m i real e =
    steady_then tt (steady_skips m i real e) (λ _ a. steady_then tt (steady_expect terminal.Less a refl) (λ _ b. steady_then kind.Bool (steady_type b) (λ k c. steady_then tt (steady_expect terminal.Greater c refl) (λ _ d. steady_value (λ _. k) (steady_expect terminal.Ampersand d refl)))))

abbrev InputPort : Part
InputPort = (Takes terminal.Istream ⨾ StreamKind) ⨾ Any IsName

abbrev OutputPort : Part
OutputPort = (Takes terminal.Ostream ⨾ StreamKind) ⨾ Any IsName

abbrev MemoryPort : Part
MemoryPort = Takes terminal.Mmap ⨾ (Takes terminal.Less ⨾ (May terminal.Const ⨾ (Any IsType ⨾ (Takes terminal.Greater ⨾ Any IsName))))

abbrev Port : Part
Port = InputPort ∣ OutputPort ∣ MemoryPort

full_stream_kind : Full StreamKind
full_stream_kind = full_then (full_takes terminal.Less) (full_then full_type (full_then (full_takes terminal.Greater) (full_takes terminal.Ampersand)))

steady_port : (i : Symbols) → Steady Port port i
unfolding port
steady_port i = steady_by port_by i (pick (next i) refl)
  where
    pick : (m : Terminal) → next i ≡ m → Steady Port (port_by m) i
    pick terminal.Istream e =
        steady_map InputPort Port (λ j r p. inl p) (steady_then kind.Bool (steady_stream_kind terminal.Istream i refl e) (λ k j. steady_value (λ x. parameter_form.InputStream k x) (steady_name j)))
    pick terminal.Ostream e =
        steady_map OutputPort Port (λ j r p. inr (inl p)) (steady_then kind.Bool (steady_stream_kind terminal.Ostream i refl e) (λ k j. steady_value (λ x. parameter_form.OutputStream k x) (steady_name j)))
    pick terminal.Mmap e =
        steady_map MemoryPort Port (λ j r p. inr (inr p))
        (steady_then tt (steady_skips terminal.Mmap i refl e) (λ _ a. steady_then tt (steady_expect terminal.Less a refl) (λ _ b. steady_then true (steady_eat terminal.Const b refl) (λ c d. steady_then kind.Bool (steady_type d) (λ k f.
        steady_then tt (steady_expect terminal.Greater f refl) (λ _ g. steady_value (λ x. parameter_form.Memory c k x) (steady_name g)))))))
    pick _ e = steady_refuse i (full_map InputPort Port (λ j r p. inl p) (full_then (full_then (full_takes terminal.Istream) full_stream_kind) full_name))

port_tree : (i a j k : Symbols) → Takes terminal.Tapa i a → Takes terminal.Scope a j → Port j k → Any IsParameter i k
port_tree i a j k tapa scope (inl (b, (c, word, (d, less, (e, (t, type), (f, greater, ampersand)))), (x, is))) = (parameter_form.InputStream t x, (a, tapa, (j, scope, (c, word, (d, less, (e, type, (f, greater, (b, ampersand, is))))))))
port_tree i a j k tapa scope (inr (inl (b, (c, word, (d, less, (e, (t, type), (f, greater, ampersand)))), (x, is)))) = (parameter_form.OutputStream t x, (a, tapa, (j, scope, (c, word, (d, less, (e, type, (f, greater, (b, ampersand, is))))))))
port_tree i a j k tapa scope (inr (inr (b, word, (c, less, (d, const, (e, (t, type), (f, greater, (x, is)))))))) =
    let w = may_when terminal.Const c d const in (parameter_form.Memory w.0 t x, (a, tapa, (j, scope, (b, word, (c, less, (d, w.1, (e, type, (f, greater, is))))))))

abbrev Scalar : Part
Scalar = May terminal.Const ⨾ (Any IsType ⨾ Any IsName)

scalar_tree : (i k : Symbols) → Scalar i k → Any IsParameter i k
scalar_tree i k (a, const, (b, (t, type), (x, is))) = let w = may_when terminal.Const i a const in (parameter_form.Scalar w.0 t x, (a, w.1, (b, type, is)))

steady_parameter : (i : Symbols) → Steady (Any IsParameter) parameter i
unfolding parameter scalar
steady_parameter i =
    steady_sees terminal.Tapa (skip >> expect terminal.Scope >> port) scalar i
    (λ e. steady_map ((Takes terminal.Tapa ⨾ Takes terminal.Scope) ⨾ Port) (Any IsParameter) (λ j k h. port_tree j h.1.0 h.0 k h.1.1 h.1.2 h.2) (steady_then tt (steady_then tt (steady_skips terminal.Tapa i refl e) (λ _ a. steady_expect terminal.Scope a refl)) (λ _ j. steady_port j)))
    (λ _. steady_map Scalar (Any IsParameter) scalar_tree (steady_then true (steady_eat terminal.Const i refl) (λ c a. steady_then kind.Bool (steady_type a) (λ k b. steady_value (λ x. parameter_form.Scalar c k x) (steady_name b)))))

abbrev Parameters : Part
Parameters = Takes terminal.LeftParen ⨾ ((Nothing ∣ (Any IsParameter ⨾ Many (Takes terminal.Comma ⨾ Any IsParameter))) ⨾ Takes terminal.RightParen)

steady_parameters : (i : Symbols) → Steady Parameters parameters i
unfolding parameters
steady_parameters i =
    steady_then tt (steady_expect terminal.LeftParen i refl) (λ _ a. steady_then [] (steady_separated_until terminal.Comma parameter refl (Any IsParameter) (any_longer IsParameter parameter_longer) steady_parameter terminal.RightParen a) (λ ps b.
    steady_value (λ _. ps) (steady_expect terminal.RightParen b refl)))

-- ---- streams and invocations

abbrev Label : Part
Label = (Takes terminal.LeftParen ⨾ Takes terminal.Str) ⨾ Takes terminal.RightParen

abbrev IsStreamName : Name → Part
IsStreamName x = IsName x ⨾ MayBeLabelled

steady_stream_name : (i : Symbols) → Steady (Any IsStreamName) stream_name i
unfolding stream_name
steady_stream_name i =
    steady_map (Any IsName ⨾ MayBeLabelled) (Any IsStreamName) (λ j r p. (p.1.0, (p.0, p.1.1, p.2)))
    (steady_then no_name (steady_name i) (λ x j. steady_sees terminal.LeftParen (skip >> expect terminal.Str >> expect terminal.RightParen >> pure x) (λ k. Ok (x, k)) j
    (λ e. steady_map Label MayBeLabelled (λ k r p. inl (p.1.0, p.1.1, (p.0, p.1.2, p.2)))
    (steady_value (λ _. x) (steady_then tt (steady_then tt (steady_skips terminal.LeftParen j refl e) (λ _ a. steady_expect terminal.Str a refl)) (λ _ b. steady_expect terminal.RightParen b refl))))
    (λ _. steady_map Nothing MayBeLabelled (λ k r p. inr p) (steady_pure x j))))

abbrev Mode : Part
Mode = Takes terminal.Less ⨾ (Takes terminal.Tapa ⨾ (Takes terminal.Scope ⨾ (Any IsPlainName ⨾ Takes terminal.Greater)))

mode_tree : (i k : Symbols) → Mode i k → Any (Maybe IsMode) i k
mode_tree i k (a, less, (b, tapa, (c, scope, (d, (x, is), greater)))) = (Some x, (a, less, (b, tapa, (c, scope, (d, is, greater)))))

steady_mode : (i : Symbols) → Steady (Any (Maybe IsMode)) mode i
unfolding mode
steady_mode i =
    steady_sees terminal.Less (skip >> (expect terminal.Tapa >> (expect terminal.Scope >> (plain_name >>= (λ x. expect terminal.Greater >> pure (Some x)))))) (λ k. Ok (None, k)) i
    (λ e. steady_map Mode (Any (Maybe IsMode)) mode_tree
    (steady_then tt (steady_skips terminal.Less i refl e) (λ _ a. steady_then tt (steady_expect terminal.Tapa a refl) (λ _ b. steady_then tt (steady_expect terminal.Scope b refl) (λ _ c. steady_then no_name (steady_plain c) (λ x d. steady_value (λ _. Some x) (steady_expect terminal.Greater d refl)))))))
    (λ _. steady_map Nothing (Any (Maybe IsMode)) (λ j r p. (None, p)) (steady_pure None i))

argument_tree : (i k : Symbols) → AnyExpression expression_level i k → Any IsArgument i k
argument_tree i k h = (record { place = first_place i; value = h.0 }, (starts h.0 i k h.1, h.1))

steady_invocation_argument : (limit : ℕ) (R : Readers) → AllSteady R → (i : Symbols) → Steady (Any IsArgument) (invocation_argument limit R) i
unfolding invocation_argument
steady_invocation_argument limit R s i =
    steady_at (λ at. whole R.expression limit >>= (λ e. pure (record { place = at; value = e }))) i
    (steady_map (AnyExpression expression_level) (Any IsArgument) argument_tree (steady_value (λ e. record { place = first_place i; value = e }) (steady_value (λ e. e.0) (s.expressions.expression limit i))))

abbrev Arguments : Part
Arguments = Many (Takes terminal.Comma ⨾ Any IsArgument)

steady_invocation_arguments : (limit : ℕ) (R : Readers) → AllSteady R → (i : Symbols) → Steady Arguments (invocation_arguments limit R) i
steady_invocation_arguments limit R s i = steady_more terminal.Comma (invocation_argument limit R) refl (Any IsArgument) (any_longer IsArgument argument_longer) (steady_invocation_argument limit R s) [] i

abbrev IsDepth : CountTree → Part
IsDepth c = Takes terminal.Comma ⨾ IsCount c

-- ---- readers behind `tapa ::`

abbrev marked : {A : Type 0} → Reader A → Reader A
marked p = expect terminal.Tapa >> (expect terminal.Scope >> p)

and_then_same : {A B : Type 0} (o : Outcome A) (f g : A → Reader B) → ((a : A) (j : Symbols) → f a j ≡ g a j) → and_then o f ≡ and_then o g
and_then_same (Ok x) f g h = h x.0 x.1
and_then_same (Err e) f g h = refl

marked_then : {A B : Type 0} (p : Reader A) (f : A → Reader B) (i : Symbols) → and_then (marked p i) f ≡ marked (p >>= f) i
marked_then p f i =
    and_then_again (expect terminal.Tapa i) (λ _. expect terminal.Scope >> p) f
    ∙ and_then_same (expect terminal.Tapa i) (λ _. (expect terminal.Scope >> p) >>= f) (λ _. expect terminal.Scope >> (p >>= f)) (λ _ j. and_then_again (expect terminal.Scope j) (λ _. p) f)

two_less : (i : Symbols) → drop 1 (drop 1 i) ≡ drop 2 i
two_less [] = refl
two_less (x ∷ []) = refl
two_less (x ∷ y ∷ i) = refl

-- a reader behind `tapa ::` reads the symbols behind two
marked_on : {A : Type 0} (p q : Reader A) (i : Symbols) → p (drop 2 i) ≡ q (drop 2 i) → marked p i ≡ marked q i
unfolding expect
marked_on {A} p q i e = first (sees terminal.Tapa i)
  where
    second : (b : Bool) → and_then (cond {A = Outcome (Unit {0})} b (Ok (tt, drop 1 (drop 1 i))) (Err (P1, drop 1 i))) (λ _. p) ≡ and_then (cond {A = Outcome (Unit {0})} b (Ok (tt, drop 1 (drop 1 i))) (Err (P1, drop 1 i))) (λ _. q)
    second true = subst (λ k. p k ≡ q k) (sym (two_less i)) e
    second false = refl

    first : (b : Bool) → and_then (cond {A = Outcome (Unit {0})} b (Ok (tt, drop 1 i)) (Err (P1, i))) (λ _. expect terminal.Scope >> p) ≡ and_then (cond {A = Outcome (Unit {0})} b (Ok (tt, drop 1 i)) (Err (P1, i))) (λ _. expect terminal.Scope >> q)
    first true = second (sees terminal.Scope (drop 1 i))
    first false = refl

fewer : (i : Symbols) → length (drop 2 i) ≤ length i
fewer [] = omega arith
fewer (x ∷ []) = omega arith
fewer (x ∷ y ∷ i) = omega arith

none_seen : sees terminal.Stream [] ≡ false
unfolding sees same
none_seen = refl

-- with enough turns the number of them is nothing to the answer
module _ {S B : Type 0} (goes : Symbols → Bool) (turn : S → Reader S) (last : S → Reader B) (loop : ℕ → S → Reader B) (is_loop : IsLoop goes turn last loop) (none : goes [] ≡ false) (less : (s t : S) (i j : Symbols) → turn s i ≡ Ok (t, j) → length j < length i) where
  enough : (n m : ℕ) (s : S) (k : Symbols) → length k ≤ n → length k ≤ m → loop n s k ≡ loop m s k
  enough zero zero s k a b = refl
  enough zero (suc m) s [] a b = is_loop.none s ∙ sym (is_loop.stop m s [] none)
  enough zero (suc m) s (x ∷ k) a b = absurd (omega (arith, a))
  enough (suc n) zero s [] a b = is_loop.stop n s [] none ∙ sym (is_loop.none s)
  enough (suc n) zero s (x ∷ k) a b = absurd (omega (arith, b))
  enough (suc n) (suc m) s k a b = pick (enough n m) (goes k) refl
    where
      turned : ((s : S) (k : Symbols) → length k ≤ n → length k ≤ m → loop n s k ≡ loop m s k) → (o : Outcome S) → turn s k ≡ o → and_then o (loop n) ≡ and_then o (loop m)
      turned same (Ok (t, j)) e = same t j (omega (arith, a, less s t k j e)) (omega (arith, b, less s t k j e))
      turned same (Err e') e = refl

      pick : ((s : S) (k : Symbols) → length k ≤ n → length k ≤ m → loop n s k ≡ loop m s k) → (b : Bool) → goes k ≡ b → loop (suc n) s k ≡ loop (suc m) s k
      pick same true g = is_loop.again n s k g ∙ turned same (turn s k) refl ∙ sym (is_loop.again m s k g)
      pick same false g = is_loop.stop n s k g ∙ sym (is_loop.stop m s k g)

module _ (limit levels : ℕ) (inner : Option Readers) (sound : MayBe (Sound limit) levels inner) (h : MaySteady AllSteady inner) where
  steady_depth : (i : Symbols) → Steady (Any (Maybe IsDepth)) (depth limit inner) i
  unfolding depth
  steady_depth i =
      steady_sees terminal.Comma (skip >> (counted limit inner >>= (λ c. pure (Some c)))) (λ k. Ok (None, k)) i
      (λ e. steady_map (Takes terminal.Comma ⨾ Any IsCount) (Any (Maybe IsDepth)) (λ j r p. (Some p.2.0, (p.0, p.1, p.2.1))) (steady_then tt (steady_skips terminal.Comma i refl e) (λ _ j. steady_value (λ c. Some c) (steady_counted limit inner h j))))
      (λ _. steady_map Nothing (Any (Maybe IsDepth)) (λ j r p. (None, p)) (steady_pure None i))

  -- a stream behind `tapa ::`
  abbrev stream_rest : Reader StreamTree
  stream_rest = do
    expect terminal.Stream
    expect terminal.Less
    k ← type_name
    d ← depth limit inner
    expect terminal.Greater
    names ← separated terminal.Comma stream_name
    expect terminal.Semicolon
    pure (record { kind = k; depth = d; names = names })

  abbrev StreamRest : Part
  StreamRest = Takes terminal.Stream ⨾ (Takes terminal.Less ⨾ (Any IsType ⨾ (Any (Maybe IsDepth) ⨾ (Takes terminal.Greater ⨾ ((Any IsStreamName ⨾ Many (Takes terminal.Comma ⨾ Any IsStreamName)) ⨾ Takes terminal.Semicolon)))))

  steady_stream_rest : (i : Symbols) → Steady StreamRest stream_rest i
  steady_stream_rest i =
      steady_then tt (steady_expect terminal.Stream i refl) (λ _ a. steady_then tt (steady_expect terminal.Less a refl) (λ _ b. steady_then kind.Bool (steady_type b) (λ k c. steady_then None (steady_depth c) (λ d e. steady_then tt (steady_expect terminal.Greater e refl) (λ _ f.
      steady_then [] (steady_separated terminal.Comma stream_name refl (Any IsStreamName) (any_longer IsStreamName stream_name_longer) steady_stream_name f) (λ names g. steady_value (λ _. record { kind = k; depth = d; names = names }) (steady_expect terminal.Semicolon g refl)))))))

  -- ---- invocations

  abbrev invocation_behind : Option Name → Readers → Reader InvocationTree
  invocation_behind m R = do
    x ← name
    arguments ← invocation_arguments limit R
    expect terminal.RightParen
    pure (record { mode = m; task = x; arguments = arguments })

  abbrev Invocation : Part
  Invocation = Takes terminal.Dot ⨾ (Takes terminal.Invoke ⨾ (Any (Maybe IsMode) ⨾ (Takes terminal.LeftParen ⨾ (Any IsName ⨾ (Arguments ⨾ Takes terminal.RightParen)))))

  invocation_tree : (i k : Symbols) → Invocation i k → Any IsInvocation i k
  invocation_tree i k (a, dot, (b, word, (c, (m, moded), (d, begin, (e, (x, is), (f, all, close)))))) =
      let xs = more_of terminal.Comma IsArgument e f all in (record { mode = m; task = x; arguments = xs.0 }, (a, dot, (b, word, (c, moded, (d, begin, (e, is, (f, xs.1, close)))))))

  steady_invocation : (i : Symbols) → Steady (Any IsInvocation) (invocation limit inner) i
  unfolding invocation
  steady_invocation i =
      steady_map Invocation (Any IsInvocation) invocation_tree
      (steady_then tt (steady_expect terminal.Dot i refl) (λ _ a. steady_then tt (steady_expect terminal.Invoke a refl) (λ _ b. steady_then None (steady_mode b) (λ m c.
      steady_open AllSteady terminal.LeftParen inner (λ R. invocation_behind m R) c refl h (full_then full_name (full_then (full_many (Takes terminal.Comma ⨾ Any IsArgument)) (full_takes terminal.RightParen)))
      (λ R d s. steady_then no_name (steady_name d) (λ x e. steady_then [] (steady_invocation_arguments limit R s e) (λ xs f. steady_value (λ _. record { mode = m; task = x; arguments = xs }) (steady_expect terminal.RightParen f refl))))))))

  abbrev Chained : Part
  Chained = Any IsInvocation ⨾ Many (Any IsInvocation)

  steady_chained : (i : Symbols) → Steady Chained (chained limit inner) i
  unfolding chained
  steady_chained i =
      then_steady (Any IsInvocation) (Many (Any IsInvocation)) (invocation limit inner) (λ v. repeat_behind (sees terminal.Dot) (invocation limit inner) (v ∷ [])) i (steady_invocation i) (full_many (Any IsInvocation))
      (λ v j e. steady_repeat (sees terminal.Dot) (invocation limit inner) (looks_sees terminal.Dot) (Any IsInvocation) (any_longer IsInvocation invocation_longer) (λ k _. steady_invocation k) (v ∷ []) j)

  -- invocations behind `tapa ::`
  abbrev invocations_rest : Reader (List InvocationTree)
  invocations_rest = do
    expect terminal.Task
    expect terminal.LeftParen
    expect terminal.RightParen
    found ← chained limit inner
    expect terminal.Semicolon
    pure found

  abbrev InvocationsRest : Part
  InvocationsRest = Takes terminal.Task ⨾ (Takes terminal.LeftParen ⨾ (Takes terminal.RightParen ⨾ (Chained ⨾ Takes terminal.Semicolon)))

  steady_invocations_rest : (i : Symbols) → Steady InvocationsRest invocations_rest i
  steady_invocations_rest i =
      steady_then tt (steady_expect terminal.Task i refl) (λ _ a. steady_then tt (steady_expect terminal.LeftParen a refl) (λ _ b. steady_then tt (steady_expect terminal.RightParen b refl) (λ _ c. steady_then [] (steady_chained c) (λ vs d.
      steady_value (λ _. vs) (steady_expect terminal.Semicolon d refl)))))

  -- ---- the body of a task with streams: `tapa ::` first, and then turns, each with the next `tapa ::` at its end

  abbrev found_with : List StreamTree → Reader (List StreamTree)
  found_with found = stream_rest >>= (λ s. marked (pure (found ++ s ∷ [])))

  abbrev last : List StreamTree → Reader BodyTree
  last found = invocations_rest >>= (λ vs. pure (upper found vs))

  body_loop : ℕ → List StreamTree → Reader BodyTree
  body_loop zero found = last found
  body_loop (suc n) found = λ k. if sees terminal.Stream k then (found_with found >>= body_loop n) k else last found k

  body_loops : IsLoop (sees terminal.Stream) found_with last body_loop
  unfolding body_loop
  body_loops = record { looks = looks_sees terminal.Stream; none = λ found. refl; again = λ n found k g. if_true _ g refl; stop = λ n found k g. if_false _ g refl }

  abbrev Turn : Part
  Turn = StreamRest ⨾ (Takes terminal.Tapa ⨾ Takes terminal.Scope)

  turn_longer : Longer Turn
  turn_longer i r (q, (a, word, (b, less, (c, (k, type), (d, (n, counted), (e, greater, (f, names, end)))))), (l, tapa, scope)) =
      let xs = separated_of terminal.Comma IsStreamName e f names in
      omega (
        arith,
        takes_longer terminal.Stream i a word,
        takes_longer terminal.Less a b less,
        type_longer k b c type,
        maybe_longer IsDepth (behind_longer terminal.Comma IsCount count_longer) n c d counted,
        takes_longer terminal.Greater d e greater,
        separated_longer terminal.Comma IsStreamName stream_name_longer xs.0 e f xs.1,
        takes_longer terminal.Semicolon f q end,
        takes_longer terminal.Tapa q l tapa,
        takes_longer terminal.Scope l r scope,
      )

  steady_turn : (found : List StreamTree) (i : Symbols) → Steady Turn (found_with found) i
  steady_turn found i =
      steady_then (record { kind = kind.Bool; depth = None; names = [] }) (steady_stream_rest i) (λ s j. steady_then tt (steady_expect terminal.Tapa j refl) (λ _ k. steady_value (λ _. found ++ s ∷ []) (steady_expect terminal.Scope k refl)))

  turn_less : (found more : List StreamTree) (i j : Symbols) → found_with found i ≡ Ok (more, j) → length j < length i
  turn_less found more i j e = turn_longer i j (spelled_of more j (steady_turn found i) e)

  abbrev goes_on : Symbols → Bool
  goes_on i = sees terminal.Stream (drop 2 i)

  abbrev ending : List StreamTree → Reader BodyTree
  ending found = invocations limit inner >>= (λ vs. pure (upper found vs))

  same_loop : (n : ℕ) (found : List StreamTree) (i : Symbols) → and_then (repeat_from goes_on (stream limit inner) n found i) ending ≡ marked (body_loop n found) i
  unfolding repeat_from body_loop stream invocations
  same_loop zero found i = marked_then invocations_rest (λ vs. pure (upper found vs)) i
  same_loop (suc n) found i = pick (same_loop n) (goes_on i) refl
    where
      pick : ((found : List StreamTree) (i : Symbols) → and_then (repeat_from goes_on (stream limit inner) n found i) ending ≡ marked (body_loop n found) i) → (b : Bool) → goes_on i ≡ b
          → and_then (cond b (and_then (stream limit inner i) (λ s. repeat_from goes_on (stream limit inner) n (found ++ s ∷ []))) (Ok (found, i))) ending ≡ marked (body_loop (suc n) found) i
      pick same false g = marked_then invocations_rest (λ vs. pure (upper found vs)) i ∙ marked_on (last found) (body_loop (suc n) found) i (sym (if_false _ g refl))
      pick same true g =
          and_then_again (marked stream_rest i) (λ s. repeat_from goes_on (stream limit inner) n (found ++ s ∷ [])) ending
          ∙ and_then_same (marked stream_rest i) (λ s. repeat_from goes_on (stream limit inner) n (found ++ s ∷ []) >>= ending) (λ s. marked (body_loop n (found ++ s ∷ []))) (λ s j. same (found ++ s ∷ []) j)
          ∙ marked_then stream_rest (λ s. marked (body_loop n (found ++ s ∷ []))) i
          ∙ marked_on (stream_rest >>= (λ s. marked (body_loop n (found ++ s ∷ [])))) (body_loop (suc n) found) i (sym (if_true _ g (turned (drop 2 i))))
        where
          turned : (k : Symbols) → (found_with found >>= body_loop n) k ≡ (stream_rest >>= (λ s. marked (body_loop n (found ++ s ∷ [])))) k
          turned k =
              and_then_again (stream_rest k) (λ s. marked (pure (found ++ s ∷ []))) (body_loop n)
              ∙ and_then_same (stream_rest k) (λ s. marked (pure (found ++ s ∷ [])) >>= body_loop n) (λ s. marked (body_loop n (found ++ s ∷ []))) (λ s j. marked_then (pure (found ++ s ∷ [])) (body_loop n) j)

  abbrev upper_body : Reader BodyTree
  upper_body = streams limit inner >>= ending

  upper_is : (i : Symbols) → upper_body i ≡ marked (λ k. body_loop (length k) [] k) i
  unfolding repeat_behind
  upper_is i =
      same_loop (length i) [] i ∙ marked_on (body_loop (length i) []) (λ k. body_loop (length k) [] k) i
      (enough (sees terminal.Stream) found_with last body_loop body_loops none_seen turn_less (length i) (length (drop 2 i)) [] (drop 2 i) (fewer i) (omega arith))

  abbrev Upper : Part
  Upper = Takes terminal.Tapa ⨾ (Takes terminal.Scope ⨾ (Many Turn ⨾ InvocationsRest))

  record AreStreams (i c : Symbols) : Type 0 where
    trees : List StreamTree
    behind : Symbols
    scope : Symbols
    spelled : Each IsStream trees i behind
    first : Takes terminal.Tapa behind scope
    second : Takes terminal.Scope scope c

  streams_tree : (us : List (Unit {0})) (i a b c : Symbols) → Takes terminal.Tapa i a → Takes terminal.Scope a b → Each (λ (u : Unit {0}). Turn) us b c → AreStreams i c
  streams_tree [] i a b c tapa scope is = record { trees = []; behind = i; scope = a; spelled = refl; first = tapa; second = subst (λ l. Takes terminal.Scope a l) is scope }
  streams_tree (u ∷ us) i a b c tapa scope (d, (q, (e, word, (f, less, (g, (k, type), (l, (n, counted), (m, greater, (o, names, end)))))), (p, tapa', scope')), rest) =
      let all = streams_tree us q p d c tapa' scope' rest in
      let xs = separated_of terminal.Comma IsStreamName m o names in
      record {
        trees = record { kind = k; depth = n; names = xs.0 } ∷ all.trees;
        behind = all.behind;
        scope = all.scope;
        spelled = (q, (a, tapa, (b, scope, (e, word, (f, less, (g, type, (l, counted, (m, greater, (o, xs.1, end)))))))), all.spelled);
        first = all.first;
        second = all.second;
      }

  upper_tree : (i k : Symbols) → Upper i k → Any IsBody i k
  upper_tree i k (a, tapa, (b, scope, (c, turns, (d, word, (e, begin, (f, close, (g, found, end))))))) =
      let all = streams_tree turns.0 i a b c tapa scope turns.1 in
      let vs = some_of IsInvocation f g found in
      (upper all.trees vs.0, (all.behind, all.spelled, (all.scope, all.first, (c, all.second, (d, word, (e, begin, (f, close, (g, vs.1, end))))))))

  steady_body : (i : Symbols) → Steady (Any IsBody) (body limit inner) i
  unfolding body
  steady_body i =
      steady_sees terminal.Tapa upper_body (statements_with limit inner >>= (λ ss. pure (leaf (statements ss)))) i
      (λ _. steady_map Upper (Any IsBody) upper_tree (steady_as (marked (λ k. body_loop (length k) [] k)) upper_body i upper_is
      (steady_then tt (steady_expect terminal.Tapa i refl) (λ _ a. steady_then tt (steady_expect terminal.Scope a refl) (λ _ b.
      loop_steady (sees terminal.Stream) found_with last body_loop body_loops Turn InvocationsRest turn_longer full_invocations (λ found k _. steady_turn found k) (λ found k. steady_value (λ vs. upper found vs) (steady_invocations_rest k)) [] b)))))
      (λ _. steady_map (Many Statement) (Any IsBody) leaf_tree (steady_value (λ ss. leaf (statements ss)) (steady_statements limit levels inner sound h i)))
    where
      leaf_tree : (i k : Symbols) → Many Statement i k → Any IsBody i k
      leaf_tree i k p = let ss = statements_tree i k p in (leaf ss.0, ss.1)

      full_invocations : Full InvocationsRest
      full_invocations = full_of InvocationsRest invocations_rest (steady_invocations_rest [])

  -- ---- tasks, constants and files

  abbrev task_end : List AttributeTree → Name → List Parameter → BodyTree → Place → Reader TaskTree
  task_end attributes x ps b at = do
    expect terminal.RightBrace
    pure (record { attributes = attributes; name = x; parameters = ps; body = b; end = at })

  abbrev TaskBehind : Part
  TaskBehind = Takes terminal.Void ⨾ (Any IsName ⨾ (Parameters ⨾ (Takes terminal.LeftBrace ⨾ (Any IsBody ⨾ Takes terminal.RightBrace))))

  steady_task : (found : List AttributeTree) (i : Symbols) → Steady TaskBehind (task_behind limit inner found) i
  unfolding task_behind
  steady_task found i =
      steady_then tt (steady_expect terminal.Void i refl) (λ _ a. steady_then no_name (steady_name a) (λ x b. steady_then [] (steady_parameters b) (λ ps c. steady_then tt (steady_expect terminal.LeftBrace c refl) (λ _ d. steady_then (leaf no_statement) (steady_body d) (λ y e.
      steady_at (task_end found x ps y) e (steady_value (λ _. record { attributes = found; name = x; parameters = ps; body = y; end = first_place e }) (steady_expect terminal.RightBrace e refl)))))))

  abbrev Word : Part
  Word = Takes terminal.Const ∣ Takes terminal.Constexpr

  steady_word : (i : Symbols) → Steady Word constant_word i
  unfolding constant_word sees
  steady_word i =
      steady_test (λ t. same t terminal.Const || same t terminal.Constexpr) (λ k. Ok (tt, drop 1 k)) (refuse P1) i (λ e. word (sees terminal.Const i) refl (sees terminal.Constexpr i) refl e)
      (λ _. steady_refuse i (full_map (Takes terminal.Const) Word (λ j r p. inl p) (full_takes terminal.Const)))
    where
      word : (a : Bool) → sees terminal.Const i ≡ a → (b : Bool) → sees terminal.Constexpr i ≡ b → (sees terminal.Const i || sees terminal.Constexpr i) ≡ true → Steady Word skip i
      word true e b f both = steady_map (Takes terminal.Const) Word (λ j r p. inl p) (steady_skips terminal.Const i refl (sees_is terminal.Const i e))
      word false e true f both = steady_map (Takes terminal.Constexpr) Word (λ j r p. inr p) (steady_skips terminal.Constexpr i refl (sees_is terminal.Constexpr i f))
      word false e false f both = absurd (neither (sees terminal.Const i) (sees terminal.Constexpr i) e f both)
        where
          neither : (a b : Bool) → a ≡ false → b ≡ false → (a || b) ≡ true → ⊥
          neither true b e f g = cc
          neither false true e f g = cc
          neither false false e f g = cc

  abbrev ConstantBehind : Part
  ConstantBehind = Word ⨾ (Any IsType ⨾ (Any IsName ⨾ (Takes terminal.Assign ⨾ (AnyExpression expression_level ⨾ Takes terminal.Semicolon))))

  steady_constant : (found : List AttributeTree) (i : Symbols) → Steady ConstantBehind (constant_behind limit inner found) i
  unfolding constant_behind
  steady_constant found i =
      steady_then tt (steady_word i) (λ _ a. steady_then kind.Bool (steady_type a) (λ k b. steady_then no_name (steady_name b) (λ x c. steady_then tt (steady_expect terminal.Assign c refl) (λ _ d. steady_then nullptr (steady_whole limit inner h d) (λ e f.
      steady_value (λ _. constant found k x e) (steady_expect terminal.Semicolon f refl))))))

  item_tree : (i j k : Symbols) → Many (Any IsAttribute) i j → (TaskBehind ∣ ConstantBehind) j k → Any IsItem i k
  item_tree i j k before (inl (a, void, (b, (x, is), (c, (d, begin, (e, all, close)), (f, brace, (g, (y, inside), (s, end, eq))))))) =
      let found = collect IsAttribute i j before in
      let ps = listed_of terminal.Comma IsParameter d e all in
      (task (record { attributes = found.0; name = x; parameters = ps.0; body = y; end = s.place }), (j, found.1, (a, void, (b, is, (d, begin, (e, ps.1, (c, close, (f, brace, (g, inside, (s, (end, refl), eq))))))))))
  item_tree i j k before (inr (a, word, (b, (t, type), (c, (x, is), (d, sign, (f, (e, value), end)))))) =
      let found = collect IsAttribute i j before in (constant found.0 t x e, (j, found.1, (a, word, (b, type, (c, is, (d, sign, (f, value, end)))))))

  steady_item : (i : Symbols) → Steady (Any IsItem) (item limit inner) i
  unfolding item
  steady_item i =
      steady_map (Many (Any IsAttribute) ⨾ (TaskBehind ∣ ConstantBehind)) (Any IsItem) (λ j r p. item_tree j p.0 r p.1 p.2)
      (steady_then [] (steady_attributes inner h i) (λ found j. steady_sees terminal.Void (task_behind limit inner found >>= (λ t. pure (task t))) (constant_behind limit inner found) j
      (λ _. steady_map TaskBehind (TaskBehind ∣ ConstantBehind) (λ k r p. inl p) (steady_value (λ t. task t) (steady_task found j))) (λ _. steady_map ConstantBehind (TaskBehind ∣ ConstantBehind) (λ k r p. inr p) (steady_constant found j))))

  steady_ended : (i : Symbols) → Steady Nothing ended i
  steady_ended [] = gives tt front_none [] refl refl (λ j. refl) (λ x z other ends. absurd cc)
  steady_ended (x ∷ i) = refuses P1 front_none (x ∷ i) refl refl (λ j. j, λ j. refl) (λ y z other ends. refl)

  steady_file : (i : Symbols) → Steady (Many (Any IsItem)) (file limit inner) i
  unfolding file
  steady_file i =
      steady_map (Many (Any IsItem) ⨾ Nothing) (Many (Any IsItem)) (all_read (Many (Any IsItem)))
      (steady_then [] (steady_repeat is_left (item limit inner) (λ x z other. refl) (Any IsItem) (any_longer IsItem item_longer) (λ k _. steady_item k) [] i) (λ xs j. steady_value (λ _. xs) (steady_ended j)))

-- What a file's reader answers hangs on the symbols up to the one that it stops before, and what stands before that one may go on to a file.
pub file_steady : (limit levels : ℕ) (i : Symbols) → Steady (Many (Any IsItem)) (file limit (below_levels limit levels)) i
file_steady limit levels i = steady_file limit levels (below_levels limit levels) (levels_sound limit levels) (levels_steady limit levels) i
