-- Files that were read are spelled so, and pass no limit.
use Rattle.std.proofs.Common.{◌≡◌, inl, inr, ℕ, ◌≤◌, Bool, true, false, cond, ◌||◌, List, [], ◌∷◌, drop, Option, Some, None, Ok, Err, refl, subst, arith}
use Rattle.tapa_base.specs.declared.kind.Kind.{Kind}
use Rattle.tapa_syntax.specs.declared.terminal.Terminal.{Terminal}
use Rattle.tapa_syntax.specs.declared.terminal.Terminal.TheVariants as terminal
use Rattle.tapa_syntax.specs.declared.tree.Name.{Name}
use Rattle.tapa_syntax.specs.declared.tree.Parameter.{Parameter}
use Rattle.tapa_syntax.specs.declared.tree.Parameter.TheVariants as parameter_form
use Rattle.tapa_base.specs.Spans.{◌⨾◌, ◌∣◌, Maybe, Each, EachOfSome, SeparatedOrNone}
use Rattle.tapa_syntax.specs.Trees.{ExpressionTree, CountTree, AttributeTree, ArgumentTree, InvocationTree, BodyTree, leaf, upper, ItemTree, constant, task, statements}
use Rattle.tapa_syntax.specs.Grammar.{Part, Takes, TakesAt, IsName, IsExpression, expression_level, IsType, IsCount, StandsAt, IsAttribute, IsParameter, MayBeLabelled, IsStream, IsArgument, IsMode, IsInvocation, IsBody, IsItem, IsTreeOf}
use Rattle.tapa_syntax.specs.Limits.{most, if_there, nesting, operators, form_nesting, form_operators, stream_nesting, stream_operators, invocation_nesting, invocation_operators, body_nesting, body_operators, item_nesting, item_operators, most_levels, most_operators, IsWithinLimits}
use Rattle.tapa_parse_expression.specs.declared.fault.ParseCode.TheVariants.{P1}
use Rattle.tapa_parse_expression.specs.Readers.{Outcome, ◌>>◌, skip, next, first_place, sees, expect, past, separated_until, is_left, ended}
use Rattle.tapa_parse_expression.specs.Reading.{Readers, below_levels, below}
use Rattle.tapa_parse.specs.Reading.{stream_kind, port_by, port, scalar, parameter, parameters, stream_name, mode, depth, stream, invocation_argument, invocation_arguments, invocation, chained, invocations, body, task_behind, constant_word, constant_behind, item, file}
use Rattle.tapa_parse_expression.proofs.Parts.{Symbols, Yields, yields_pure, yields_none, yields_then, yields_if, weaker, takes, expect_yields, name_yields, plain_yields}
use Rattle.tapa_parse_expression.proofs.Lists.{IsPart, AreParts, AreSome, AreListed, repeat_sound, repeat_behind_sound, behind_sound, separated_sound, separated_until_sound, some_of}
use Rattle.tapa_parse_expression.proofs.CompleteLevels.{expression_longer}
use Rattle.tapa_parse_expression.proofs.SoundTypes.{type_sound, takes_it}
use Rattle.tapa_parse_expression.proofs.SoundExpressions.{MayBe, open_sound, takes_at}
use Rattle.tapa_parse.proofs.SoundLevels.{Reads, Sound, no_number, whole_reads, eaten}
use Rattle.tapa_parse.proofs.SoundActions.{any_reads, count_reads, attributes_sound}
use Rattle.tapa_parse.proofs.SoundStatements.{statements_reads, levels_sound}

-- a part that has no limit
unlimited : {A : Type 0} (P : A → Part) (x : A) (i r : Symbols) → P x i r → IsPart P no_number no_number 0 0 x i r
unlimited P x i r k = record { spelled = k; nests = omega arith; within = omega arith }

-- ---- parameters

abbrev IsStreamKind : Kind → Part
IsStreamKind k = Takes terminal.Less ⨾ IsType k ⨾ Takes terminal.Greater ⨾ Takes terminal.Ampersand

stream_kind_sound : (i : Symbols) → Yields (λ k r. IsStreamKind k (drop 1 i) r) (stream_kind i)
unfolding stream_kind
stream_kind_sound i =
    yields_then (expect_yields terminal.Less (drop 1 i) refl) (λ _ j less. yields_then (type_sound j) (λ k l is. yields_then (expect_yields terminal.Greater l refl) (λ _ m greater. yields_then (expect_yields terminal.Ampersand m refl) (λ _ r ampersand.
    yields_pure (λ k r. IsStreamKind k (drop 1 i) r) k r (j, less, (l, is, (m, greater, ampersand)))))))

named_behind : (k : Kind) (x : Name) (i j r : Symbols) → IsStreamKind k i j → IsName x j r → (Takes terminal.Less ⨾ IsType k ⨾ Takes terminal.Greater ⨾ Takes terminal.Ampersand ⨾ IsName x) i r
named_behind k x i j r h is = (h.0, h.1, (h.2.0, h.2.1, (h.2.2.0, h.2.2.1, (j, h.2.2.2, is))))

port_sound : (i0 j i : Symbols) → Takes terminal.Tapa i0 j → Takes terminal.Scope j i → Yields (λ p r. IsParameter p i0 r) (port i)
unfolding port
port_sound i0 j i tapa scope = pick (next i) refl
  where
    pick : (m : Terminal) → next i ≡ m → Yields (λ p r. IsParameter p i0 r) (port_by m i)
    pick terminal.Istream e =
        yields_then (stream_kind_sound i) (λ k l h. yields_then (name_yields l) (λ x r is.
        yields_pure (λ p r. IsParameter p i0 r) (parameter_form.InputStream k x) r (j, tapa, (i, scope, (drop 1 i, takes_it terminal.Istream i refl e, named_behind k x (drop 1 i) l r h is)))))
    pick terminal.Ostream e =
        yields_then (stream_kind_sound i) (λ k l h. yields_then (name_yields l) (λ x r is.
        yields_pure (λ p r. IsParameter p i0 r) (parameter_form.OutputStream k x) r (j, tapa, (i, scope, (drop 1 i, takes_it terminal.Ostream i refl e, named_behind k x (drop 1 i) l r h is)))))
    pick terminal.Mmap e =
        yields_then (expect_yields terminal.Less (drop 1 i) refl) (λ _ l less. yields_then (type_sound (past terminal.Const l)) (λ k m is. yields_then (expect_yields terminal.Greater m refl) (λ _ n greater. yields_then (name_yields n) (λ x r named.
        yields_pure (λ p r. IsParameter p i0 r) (parameter_form.Memory (sees terminal.Const l) k x) r
        (j, tapa, (i, scope, (drop 1 i, takes_it terminal.Mmap i refl e, (l, less, (past terminal.Const l, eaten terminal.Const l refl, (m, is, (n, greater, named)))))))))))
    pick _ e = yields_none (λ p r. IsParameter p i0 r) (P1, i)

parameter_sound : (i : Symbols) → Yields (λ p r. IsParameter p i r) (parameter i)
unfolding parameter scalar
parameter_sound i =
    yields_if (sees terminal.Tapa i)
    (λ e. yields_then (expect_yields terminal.Scope (drop 1 i) refl) (λ _ j scope. port_sound i (drop 1 i) j (takes terminal.Tapa i refl e) scope))
    (λ _. yields_then (type_sound (past terminal.Const i)) (λ k j is. yields_then (name_yields j) (λ x r named.
    yields_pure (λ p r. IsParameter p i r) (parameter_form.Scalar (sees terminal.Const i) k x) r (past terminal.Const i, eaten terminal.Const i refl, (j, is, named)))))

abbrev AreParameters : List Parameter → Part
AreParameters ps = Takes terminal.LeftParen ⨾ SeparatedOrNone (Takes terminal.Comma) IsParameter ps ⨾ Takes terminal.RightParen

parameters_sound : (i : Symbols) → Yields (λ ps r. AreParameters ps i r) (parameters i)
unfolding parameters
parameters_sound i =
    yields_then (expect_yields terminal.LeftParen i refl) (λ _ j opening. yields_then (all j) (λ ps k found. yields_then (expect_yields terminal.RightParen k refl) (λ _ r close. yields_pure (λ ps r. AreParameters ps i r) ps r (j, opening, (k, found.spelled, close)))))
  where
    each : (i : Symbols) → Yields (λ p r. IsPart IsParameter no_number no_number 0 0 p i r) (parameter i)
    each i = weaker (parameter_sound i) (λ p r k. unlimited IsParameter p i r k)

    all : (j : Symbols) → Yields (λ ps r. AreListed terminal.Comma IsParameter no_number no_number 0 0 ps j r) (separated_until terminal.RightParen terminal.Comma parameter j)
    all j = separated_until_sound terminal.Comma IsParameter no_number no_number 0 0 parameter terminal.RightParen refl each j

-- ---- streams and invocations

abbrev IsLabelled : Name → Part
IsLabelled x = IsName x ⨾ MayBeLabelled

stream_name_sound : (i : Symbols) → Yields (λ x r. IsPart IsLabelled no_number no_number 0 0 x i r) (stream_name i)
unfolding stream_name
stream_name_sound i =
    yields_then (name_yields i) (λ x j is. yields_if (sees terminal.LeftParen j)
    (λ e. yields_then (label j) (λ _ k label. yields_pure (λ x r. IsPart IsLabelled no_number no_number 0 0 x i r) x k (unlimited IsLabelled x i k (j, is, inl (drop 1 j, takes terminal.LeftParen j refl e, label)))))
    (λ e. yields_pure (λ x r. IsPart IsLabelled no_number no_number 0 0 x i r) x j (unlimited IsLabelled x i j (j, is, inr refl))))
  where
    label : (j : Symbols) → Yields (λ _ r. (Takes terminal.Str ⨾ Takes terminal.RightParen) (drop 1 j) r) ((skip >> expect terminal.Str >> expect terminal.RightParen) j)
    label j = yields_then (expect_yields terminal.Str (drop 1 j) refl) (λ _ k text. weaker (expect_yields terminal.RightParen k refl) (λ _ r close. (k, text, close)))

mode_sound : (i : Symbols) → Yields (λ m r. Maybe IsMode m i r) (mode i)
unfolding mode
mode_sound i =
    yields_if (sees terminal.Less i)
    (λ e. yields_then (expect_yields terminal.Tapa (drop 1 i) refl) (λ _ j tapa. yields_then (expect_yields terminal.Scope j refl) (λ _ k scope. yields_then (plain_yields k) (λ x l is. yields_then (expect_yields terminal.Greater l refl) (λ _ r greater.
    yields_pure (λ m r. Maybe IsMode m i r) (Some x) r (drop 1 i, takes terminal.Less i refl e, (j, tapa, (k, scope, (l, is, greater)))))))))
    (λ e. yields_pure (λ m r. Maybe IsMode m i r) None i refl)

-- an expression begins with a symbol
pub starts : (e : ExpressionTree) (i r : Symbols) → IsExpression expression_level e i r → StandsAt (first_place i) i
starts e (x ∷ i) r h = refl
starts e [] r h = absurd (omega (arith, expression_longer expression_level e [] r h))

abbrev argument_nesting : ArgumentTree → ℕ
argument_nesting a = nesting a.value

abbrev argument_operators : ArgumentTree → ℕ
argument_operators a = operators a.value

argument_reads : (limit levels : ℕ) (R : Readers) → Sound limit levels R → Reads IsArgument argument_nesting argument_operators levels limit (invocation_argument limit R)
unfolding invocation_argument
argument_reads limit levels R h i =
    yields_then (whole_reads limit levels expression_level R.expression h.expressions.expression i) (λ e r k.
    yields_pure (λ a r. IsPart IsArgument argument_nesting argument_operators levels limit a i r) (record { place = first_place i; value = e }) r (record { spelled = (starts e i r k.spelled, k.spelled); nests = k.nests; within = k.within }))

-- the brace at the end of a task, and where it stands
brace_sound : (i : Symbols) → Yields (λ _ r. TakesAt terminal.RightBrace (first_place i) i r) (expect terminal.RightBrace i)
unfolding expect
brace_sound i =
    yields_if (sees terminal.RightBrace i) (λ e. yields_pure (λ _ r. TakesAt terminal.RightBrace (first_place i) i r) tt (drop 1 i) (takes_at terminal.RightBrace i refl e))
    (λ _. yields_none (λ _ r. TakesAt terminal.RightBrace (first_place i) i r) (P1, i))

module _ (limit levels : ℕ) (inner : Option Readers) (h : MayBe (Sound limit) levels inner) where
  abbrev IsDepth : Option CountTree → Part
  IsDepth d = Maybe (λ count. Takes terminal.Comma ⨾ IsCount count) d

  abbrev depth_nesting : Option CountTree → ℕ
  depth_nesting d = if_there (λ count. form_nesting count.form) d

  abbrev depth_operators : Option CountTree → ℕ
  depth_operators d = if_there (λ count. form_operators count.form) d

  abbrev IsDepthRead : Symbols → Option CountTree → Symbols → Type 0
  IsDepthRead i d r = IsPart IsDepth depth_nesting depth_operators levels limit d i r

  depth_reads : Reads IsDepth depth_nesting depth_operators levels limit (depth limit inner)
  unfolding depth
  depth_reads i =
      yields_if (sees terminal.Comma i)
      (λ e. yields_then (count_reads limit levels inner h (drop 1 i)) (λ c r k. yields_pure (IsDepthRead i) (Some c) r (record { spelled = (drop 1 i, takes terminal.Comma i refl e, k.spelled); nests = k.nests; within = k.within })))
      (λ e. yields_pure (IsDepthRead i) None i (record { spelled = refl; nests = omega arith; within = omega arith }))

  stream_reads : Reads IsStream stream_nesting stream_operators levels limit (stream limit inner)
  unfolding stream
  stream_reads i =
      yields_then (expect_yields terminal.Tapa i refl) (λ _ a m1. yields_then (expect_yields terminal.Scope a refl) (λ _ b m2. yields_then (expect_yields terminal.Stream b refl) (λ _ c m3. yields_then (expect_yields terminal.Less c refl) (λ _ d m4.
      yields_then (type_sound d) (λ k e is. yields_then (depth_reads e) (λ n f counted. yields_then (expect_yields terminal.Greater f refl) (λ _ g m5. yields_then (separated_sound terminal.Comma IsLabelled no_number no_number 0 0 stream_name refl stream_name_sound g) (λ xs l names. yields_then (expect_yields terminal.Semicolon l refl) (λ _ r m6.
      yields_pure (λ s r. IsPart IsStream stream_nesting stream_operators levels limit s i r) (record { kind = k; depth = n; names = xs }) r
      (record { spelled = (a, m1, (b, m2, (c, m3, (d, m4, (e, is, (f, counted.spelled, (g, m5, (l, names.spelled, m6)))))))); nests = counted.nests; within = counted.within }))))))))))

  invocation_reads : Reads IsInvocation invocation_nesting invocation_operators levels limit (invocation limit inner)
  unfolding invocation
  invocation_reads i =
      yields_then (expect_yields terminal.Dot i refl) (λ _ a m1. yields_then (expect_yields terminal.Invoke a refl) (λ _ b m2. yields_then (mode_sound b) (λ m c moded. yields_then (open_sound (Sound limit) levels inner terminal.LeftParen c refl h) (λ R d opened.
      yields_then (name_yields d) (λ x e is. yields_then (all R opened.1.less opened.1.sound e) (λ xs l found. yields_then (expect_yields terminal.RightParen l refl) (λ _ r close.
      yields_pure (λ v r. IsPart IsInvocation invocation_nesting invocation_operators levels limit v i r) (record { mode = m; task = x; arguments = xs }) r
      (record { spelled = (a, m1, (b, m2, (c, moded, (d, opened.0, (e, is, (l, found.spelled, close)))))); nests = omega (arith, opened.1.fewer, found.nests); within = found.within }))))))))
    where
      all : (R : Readers) (less : ℕ) → Sound limit less R → (i : Symbols) → Yields (λ xs r. AreParts (λ a. Takes terminal.Comma ⨾ IsArgument a) argument_nesting argument_operators less limit xs i r) (invocation_arguments limit R i)
      all R less k i =
          repeat_sound (λ a. Takes terminal.Comma ⨾ IsArgument a) argument_nesting argument_operators less limit (sees terminal.Comma) (skip >> invocation_argument limit R)
          (behind_sound terminal.Comma IsArgument argument_nesting argument_operators less limit (invocation_argument limit R) refl (argument_reads limit less R k)) i

  abbrev AreChained : Symbols → List InvocationTree → Symbols → Type 0
  AreChained i vs r = AreSome IsInvocation invocation_nesting invocation_operators levels limit vs i r

  chained_sound : (i : Symbols) → Yields (AreChained i) (chained limit inner i)
  unfolding chained
  chained_sound i =
      yields_then (invocation_reads i) (λ v j k. weaker (repeat_behind_sound IsInvocation invocation_nesting invocation_operators levels limit (sees terminal.Dot) (invocation limit inner) (λ i _. invocation_reads i) (v ∷ []) j) (λ vs r l.
      some_of IsInvocation invocation_nesting invocation_operators levels limit v i j vs r k l.0 l.1 l.2))

  abbrev AreInvocations : List InvocationTree → Part
  AreInvocations vs = Takes terminal.Tapa ⨾ Takes terminal.Scope ⨾ Takes terminal.Task ⨾ Takes terminal.LeftParen ⨾ Takes terminal.RightParen ⨾ EachOfSome IsInvocation vs ⨾ Takes terminal.Semicolon

  invocations_reads : Reads AreInvocations (most invocation_nesting) (most invocation_operators) levels limit (invocations limit inner)
  unfolding invocations
  invocations_reads i =
      yields_then (expect_yields terminal.Tapa i refl) (λ _ a m1. yields_then (expect_yields terminal.Scope a refl) (λ _ b m2. yields_then (expect_yields terminal.Task b refl) (λ _ c m3. yields_then (expect_yields terminal.LeftParen c refl) (λ _ d m4. yields_then (expect_yields terminal.RightParen d refl) (λ _ e m5.
      yields_then (chained_sound e) (λ vs l k. yields_then (expect_yields terminal.Semicolon l refl) (λ _ r m6.
      yields_pure (λ vs r. IsPart AreInvocations (most invocation_nesting) (most invocation_operators) levels limit vs i r) vs r
      (record { spelled = (a, m1, (b, m2, (c, m3, (d, m4, (e, m5, (l, k.spelled, m6)))))); nests = k.nests; within = k.within }))))))))

  abbrev IsBodyRead : Symbols → BodyTree → Symbols → Type 0
  IsBodyRead i b r = IsPart IsBody body_nesting body_operators levels limit b i r

  body_reads : Reads IsBody body_nesting body_operators levels limit (body limit inner)
  unfolding body
  body_reads i =
      yields_if (sees terminal.Tapa i)
      (λ _. yields_then (repeat_sound IsStream stream_nesting stream_operators levels limit (λ i. sees terminal.Stream (drop 2 i)) (stream limit inner) (λ i _. stream_reads i) i) (λ ss j declared. yields_then (invocations_reads j) (λ vs r invoked.
      yields_pure (IsBodyRead i) (upper ss vs) r (record { spelled = (j, declared.spelled, invoked.spelled); nests = omega (arith, declared.nests, invoked.nests); within = omega (arith, declared.within, invoked.within) }))))
      (λ _. yields_then (statements_reads limit levels inner h i) (λ ss r k. yields_pure (IsBodyRead i) (leaf (statements ss)) r (record { spelled = k.spelled; nests = k.nests; within = k.within })))

  -- ---- tasks, constants and files

  abbrev IsItemRead : Symbols → ItemTree → Symbols → Type 0
  IsItemRead i t r = IsPart IsItem item_nesting item_operators levels limit t i r

  abbrev AreBefore : List AttributeTree → Symbols → Symbols → Type 0
  AreBefore found i j = Each IsAttribute found i j

  task_sound : 1 ≤ levels → (found : List AttributeTree) (i0 i : Symbols) → AreBefore found i0 i → Yields (λ t r. IsItemRead i0 (task t) r) (task_behind limit inner found i)
  unfolding task_behind
  task_sound some found i0 i before =
      yields_then (expect_yields terminal.Void i refl) (λ _ a void. yields_then (name_yields a) (λ x b is. yields_then (parameters_sound b) (λ ps c listed. yields_then (expect_yields terminal.LeftBrace c refl) (λ _ d left. yields_then (body_reads d) (λ y e k. yields_then (brace_sound e) (λ _ r right.
      yields_pure (λ t r. IsItemRead i0 (task t) r) (record { attributes = found; name = x; parameters = ps; body = y; end = first_place e }) r
      (record {
        spelled = (i, before, (a, void, (b, is, (listed.0, listed.1, (listed.2.0, listed.2.1, (c, listed.2.2, (d, left, (e, k.spelled, right))))))));
        nests = omega (arith, some, k.nests);
        within = k.within;
      })))))))

  word_sound : (i : Symbols) → Yields (λ _ r. (Takes terminal.Const ∣ Takes terminal.Constexpr) i r) (constant_word i)
  unfolding constant_word
  word_sound i = pick (sees terminal.Const i) refl (sees terminal.Constexpr i) refl
    where
      pick : (a : Bool) → sees terminal.Const i ≡ a → (b : Bool) → sees terminal.Constexpr i ≡ b → Yields (λ _ r. (Takes terminal.Const ∣ Takes terminal.Constexpr) i r) (cond {A = Outcome (Unit {0})} (a || b) (Ok (tt, drop 1 i)) (Err (P1, i)))
      pick true is b also = yields_pure (λ _ r. (Takes terminal.Const ∣ Takes terminal.Constexpr) i r) tt (drop 1 i) (inl (takes terminal.Const i refl is))
      pick false is true also = yields_pure (λ _ r. (Takes terminal.Const ∣ Takes terminal.Constexpr) i r) tt (drop 1 i) (inr (takes terminal.Constexpr i refl also))
      pick false is false also = yields_none (λ _ r. (Takes terminal.Const ∣ Takes terminal.Constexpr) i r) (P1, i)

  constant_sound : (found : List AttributeTree) (i0 i : Symbols) → AreBefore found i0 i → Yields (IsItemRead i0) (constant_behind limit inner found i)
  unfolding constant_behind
  constant_sound found i0 i before =
      yields_then (word_sound i) (λ _ a word. yields_then (type_sound a) (λ k b is. yields_then (name_yields b) (λ x c named. yields_then (expect_yields terminal.Assign c refl) (λ _ d assign. yields_then (any_reads limit levels inner h d) (λ e l value. yields_then (expect_yields terminal.Semicolon l refl) (λ _ r semicolon.
      yields_pure (IsItemRead i0) (constant found k x e) r (record { spelled = (i, before, (a, word, (b, is, (c, named, (d, assign, (l, value.spelled, semicolon)))))); nests = value.nests; within = value.within })))))))

  item_reads : 1 ≤ levels → Reads IsItem item_nesting item_operators levels limit (item limit inner)
  unfolding item
  item_reads some i =
      yields_then (attributes_sound limit levels inner h i) (λ found j before. yields_if (sees terminal.Void j)
      (λ _. yields_then (task_sound some found i j before.spelled) (λ t r k. yields_pure (IsItemRead i) (task t) r k))
      (λ _. constant_sound found i j before.spelled))

-- the whole list of symbols was read
pub record IsFile (limit levels : ℕ) (i : Symbols) (found : List ItemTree) (r : Symbols) : Type 0 where
  pub tree : IsTreeOf i found
  pub nests : most item_nesting found ≤ levels
  pub within : most item_operators found ≤ limit
  pub ends : r ≡ []

ended_sound : (i : Symbols) → Yields (λ _ r. (i ≡ []) × (r ≡ [])) (ended i)
ended_sound [] = yields_pure (λ _ r. ([] ≡ []) × (r ≡ [])) tt [] (refl, refl)
ended_sound (x ∷ i) = yields_none (λ _ r. (x ∷ i ≡ []) × (r ≡ [])) (P1, x ∷ i)

pub file_reads : (limit levels : ℕ) → 1 ≤ levels → (i : Symbols) → Yields (IsFile limit levels i) (file limit (below_levels limit levels) i)
unfolding file
file_reads limit levels some i =
    let inner = below_levels limit levels in
    let h = levels_sound limit levels in
    yields_then (repeat_sound IsItem item_nesting item_operators levels limit is_left (item limit inner) (λ i _. item_reads limit levels inner h some i) i) (λ found j k. yields_then (ended_sound j) (λ _ r none.
    yields_pure (IsFile limit levels i) found r (record { tree = subst (λ (j : Symbols). Each IsItem found i j) none.0 k.spelled; nests = k.nests; within = k.within; ends = none.1 })))

pub file_sound : (limit levels : ℕ) → 1 ≤ levels → (i r : Symbols) (found : List ItemTree) → file limit (below_levels limit levels) i ≡ Ok (found, r) → IsTreeOf i found × (most item_nesting found ≤ levels) × (most item_operators found ≤ limit) × (r ≡ [])
file_sound limit levels some i r found e = let all = (file_reads limit levels some i).on found r e in (all.tree, all.nests, all.within, all.ends)

-- what `parse` promises of a file that it found
pub found_sound : (i r : Symbols) (found : List ItemTree) → file most_operators (below most_levels) i ≡ Ok (found, r) → IsTreeOf i found × IsWithinLimits found
found_sound i r found e = let all = file_sound most_operators most_levels (omega arith) i r found e in (all.0, record { levels = all.1; longest = all.2 })
