-- What is spelled as parameters, streams and invocations is read, or refused at the first lexeme that passes a limit.
use Rattle.std.proofs.Common.{◌≡◌, ℕ, ◌<◌, inl, inr, Bool, true, false, List, [], ◌∷◌, length, drop, Option, Some, None, Ok, refl, ap, ◌∙◌, arith}
use Rattle.tapa_base.specs.declared.kind.Kind.{Kind}
use Rattle.tapa_base.specs.declared.text.Place.{Place}
use Rattle.tapa_syntax.specs.declared.terminal.Terminal.{Terminal}
use Rattle.tapa_syntax.specs.declared.terminal.Terminal.TheVariants as terminal
use Rattle.tapa_syntax.specs.declared.tree.Name.{Name}
use Rattle.tapa_syntax.specs.declared.tree.Parameter.{Parameter}
use Rattle.tapa_syntax.specs.declared.tree.Parameter.TheVariants as parameter_form
use Rattle.tapa_base.specs.Spans.{◌⨾◌, Maybe, When, Each, EachOfSome, SeparatedOrNone}
use Rattle.tapa_syntax.specs.Trees.{ExpressionTree, CountTree, StreamTree, ArgumentTree, InvocationTree}
use Rattle.tapa_syntax.specs.Grammar.{Takes, IsName, IsType, expression_level, IsCount, IsParameter, MayBeLabelled, IsStream, IsArgument, IsMode, IsInvocation}
use Rattle.tapa_parse_expression.specs.Readers.{◌>>◌, skip, next, same, sees}
use Rattle.tapa_parse_expression.specs.Reading.{Readers}
use Rattle.tapa_parse_expression.specs.Passing.{Over, over_each, over_some, over_behind, over_maybe}
use Rattle.tapa_parse.specs.Reading.{stream_kind, port, scalar, parameter, parameters, stream_name, mode, invocation_argument, depth, stream, invocation, chained, invocations, streams}
use Rattle.tapa_parse.specs.Passing.{over_count, over_stream, over_argument, over_invocation}
use Rattle.tapa_parse_expression.proofs.Parts.{Symbols, done, then_is, if_true, if_false, next_is, seen_is, dropped, expect_is, name_is, plain_is, Told, told_ok, told_by, told_true, told_behind, told_then, told_after}
use Rattle.tapa_parse_expression.proofs.CompleteLists.{TellsAll, repeat_told, repeat_one_told, separated_is, separated_until_is}
use Rattle.tapa_parse_expression.proofs.CompleteTypes.{extends_type, type_complete, type_longer, takes_longer, sees_other}
use Rattle.tapa_parse_expression.proofs.CompleteLevels.{Ends, ends_at, expression_longer, told_opened}
use Rattle.tapa_parse_expression.proofs.Begins.{begins_type}
use Rattle.tapa_parse_expression.proofs.CompleteExpressions.{stands, whole_told}
use Rattle.tapa_parse.proofs.CompleteActions.{LevelTells, LevelMayTell, counted_told, name_behind, type_other, const_is, name_longer, form_longer}
use Rattle.tapa_parse.proofs.CompleteLengths.{each_longer, separated_longer, maybe_longer, when_longer, behind_longer}

-- ---- parameters

stream_kind_complete : (m : Terminal) (k : Kind) (i j l o p q : Symbols) → Takes m i j → Takes terminal.Less j l → IsType k l o → Takes terminal.Greater o p → Takes terminal.Ampersand p q → stream_kind i ≡ Ok (k, q)
unfolding stream_kind
stream_kind_complete m k i j l o p q word less type greater ampersand =
    rw (dropped m i j word)
    (then_is _ tt l (expect_is terminal.Less j l less)
    (then_is _ k o (type_complete k l o type (rw (next_is terminal.Greater o p greater) refl))
    (then_is _ tt p (expect_is terminal.Greater o p greater)
    (then_is _ tt q (expect_is terminal.Ampersand p q ampersand) refl))))

scalar_other : (b : Bool) (k : Kind) (m : Terminal) (i j r : Symbols) → When b (Takes terminal.Const) i j → IsType k j r → same terminal.Const m ≡ false → begins_type m ≡ false → sees m i ≡ false
scalar_other true k m i j r word type e f = sees_other terminal.Const m i j word e
scalar_other false k m i j r word type e f = rw word (type_other k m j r type f)

parameter_complete : (x : Parameter) (i r : Symbols) → IsParameter x i r → parameter i ≡ Ok (x, r)
unfolding parameter port scalar same
parameter_complete (parameter_form.InputStream k x) i r (a, tapa, (b, scope, (c, word, (d, less, (e, type, (f, greater, (g, ampersand, named))))))) =
    if_true _ (seen_is terminal.Tapa i a tapa)
    (rw (dropped terminal.Tapa i a tapa)
    (then_is _ tt b (expect_is terminal.Scope a b scope)
    (rw (next_is terminal.Istream b c word)
    (then_is _ k g (stream_kind_complete terminal.Istream k b c d e f g word less type greater ampersand) (then_is _ x r (name_is x g r named) refl)))))
parameter_complete (parameter_form.OutputStream k x) i r (a, tapa, (b, scope, (c, word, (d, less, (e, type, (f, greater, (g, ampersand, named))))))) =
    if_true _ (seen_is terminal.Tapa i a tapa)
    (rw (dropped terminal.Tapa i a tapa)
    (then_is _ tt b (expect_is terminal.Scope a b scope)
    (rw (next_is terminal.Ostream b c word)
    (then_is _ k g (stream_kind_complete terminal.Ostream k b c d e f g word less type greater ampersand) (then_is _ x r (name_is x g r named) refl)))))
parameter_complete (parameter_form.Memory is_const k x) i r (a, tapa, (b, scope, (c, word, (d, less, (e, constant, (f, type, (g, greater, named))))))) =
    let w = const_is is_const d e constant (type_other k terminal.Const e f type refl) in
    if_true _ (seen_is terminal.Tapa i a tapa)
    (rw (dropped terminal.Tapa i a tapa)
    (then_is _ tt b (expect_is terminal.Scope a b scope)
    (rw (next_is terminal.Mmap b c word, dropped terminal.Mmap b c word)
    (then_is _ tt d (expect_is terminal.Less c d less)
    (rw (w.0, w.1)
    (then_is _ k f (type_complete k e f type (rw (next_is terminal.Greater f g greater) refl))
    (then_is _ tt g (expect_is terminal.Greater f g greater) (then_is _ x r (name_is x g r named) refl))))))))
parameter_complete (parameter_form.Scalar is_const k x) i r (a, constant, (b, type, named)) =
    let w = const_is is_const i a constant (type_other k terminal.Const a b type refl) in
    if_false _ (scalar_other is_const k terminal.Tapa i a b constant type refl refl)
    (rw (w.0, w.1) (then_is _ k b (type_complete k a b type (name_behind x b r named)) (then_is _ x r (name_is x b r named) refl)))

parameter_no_end : (x : Parameter) (i r : Symbols) → IsParameter x i r → sees terminal.RightParen i ≡ false
unfolding same
parameter_no_end (parameter_form.InputStream k x) i r (a, tapa, rest) = sees_other terminal.Tapa terminal.RightParen i a tapa refl
parameter_no_end (parameter_form.OutputStream k x) i r (a, tapa, rest) = sees_other terminal.Tapa terminal.RightParen i a tapa refl
parameter_no_end (parameter_form.Memory is_const k x) i r (a, tapa, rest) = sees_other terminal.Tapa terminal.RightParen i a tapa refl
parameter_no_end (parameter_form.Scalar is_const k x) i r (a, constant, (b, type, named)) = scalar_other is_const k terminal.RightParen i a b constant type refl refl

pub parameter_longer : (x : Parameter) (i r : Symbols) → IsParameter x i r → length r < length i
parameter_longer (parameter_form.InputStream k x) i r (a, tapa, (b, scope, (c, word, (d, less, (e, type, (f, greater, (g, ampersand, named))))))) =
    omega (arith, takes_longer terminal.Tapa i a tapa, takes_longer terminal.Scope a b scope, takes_longer terminal.Istream b c word, takes_longer terminal.Less c d less, type_longer k d e type, takes_longer terminal.Greater e f greater, takes_longer terminal.Ampersand f g ampersand, name_longer x g r named)
parameter_longer (parameter_form.OutputStream k x) i r (a, tapa, (b, scope, (c, word, (d, less, (e, type, (f, greater, (g, ampersand, named))))))) =
    omega (arith, takes_longer terminal.Tapa i a tapa, takes_longer terminal.Scope a b scope, takes_longer terminal.Ostream b c word, takes_longer terminal.Less c d less, type_longer k d e type, takes_longer terminal.Greater e f greater, takes_longer terminal.Ampersand f g ampersand, name_longer x g r named)
parameter_longer (parameter_form.Memory is_const k x) i r (a, tapa, (b, scope, (c, word, (d, less, (e, constant, (f, type, (g, greater, named))))))) =
    omega (arith, takes_longer terminal.Tapa i a tapa, takes_longer terminal.Scope a b scope, takes_longer terminal.Mmap b c word, takes_longer terminal.Less c d less, when_longer is_const terminal.Const d e constant, type_longer k e f type, takes_longer terminal.Greater f g greater, name_longer x g r named)
parameter_longer (parameter_form.Scalar is_const k x) i r (a, constant, (b, type, named)) = omega (arith, when_longer is_const terminal.Const i a constant, type_longer k a b type, name_longer x b r named)

pub parameters_complete : (xs : List Parameter) (i j k r : Symbols) → Takes terminal.LeftParen i j → SeparatedOrNone (Takes terminal.Comma) IsParameter xs j k → Takes terminal.RightParen k r → parameters i ≡ Ok (xs, r)
unfolding parameters same
parameters_complete xs i j k r begin all close =
    then_is _ tt j (expect_is terminal.LeftParen i j begin)
    (then_is _ xs k
    (separated_until_is terminal.Comma IsParameter parameter (λ r. Unit {0}) (λ x i r k free. parameter_complete x i r k) parameter_longer
    (λ i j comma. tt) terminal.RightParen parameter_no_end xs j k all
    (seen_is terminal.RightParen k r close) (sees_other terminal.RightParen terminal.Comma k r close refl) tt)
    (then_is _ tt r (expect_is terminal.RightParen k r close) refl))

-- ---- streams

stream_name_complete : (x : Name) (i r : Symbols) → (IsName x ⨾ MayBeLabelled) i r → sees terminal.LeftParen r ≡ false → stream_name i ≡ Ok (x, r)
unfolding stream_name
stream_name_complete x i r (j, named, inl (k, begin, (l, string, close))) free =
    then_is _ x j (name_is x i j named)
    (if_true _ (seen_is terminal.LeftParen j k begin)
    (rw (dropped terminal.LeftParen j k begin) (then_is _ tt r (then_is _ tt l (expect_is terminal.Str k l string) (expect_is terminal.RightParen l r close)) refl)))
stream_name_complete x i r (j, named, inr is) free =
    then_is _ x j (name_is x i j named) (if_false _ (ap (sees terminal.LeftParen) is ∙ free) (ap (λ (l : Symbols). done (x, l)) is))

pub stream_name_longer : (x : Name) (i r : Symbols) → (IsName x ⨾ MayBeLabelled) i r → length r < length i
stream_name_longer x i r (j, named, inl (k, begin, (l, string, close))) = omega (arith, name_longer x i j named, takes_longer terminal.LeftParen j k begin, takes_longer terminal.Str k l string, takes_longer terminal.RightParen l r close)
stream_name_longer x i r (j, named, inr is) = omega (arith, name_longer x i j named, ap length is)

depth_begins : (c : Option CountTree) (i j r : Symbols) → Maybe (λ count. Takes terminal.Comma ⨾ IsCount count) c i j → Takes terminal.Greater j r → extends_type (next i) ≡ false
depth_begins None i j r is greater = rw (is, next_is terminal.Greater j r greater) refl
depth_begins (Some count) i j r (k, comma, is) greater = rw (next_is terminal.Comma i k comma) refl

pub count_longer : (count : CountTree) (i r : Symbols) → IsCount count i r → length r < length i
count_longer count i r h = form_longer count.form i r h.1

pub stream_longer : (s : StreamTree) (i r : Symbols) → IsStream s i r → length r < length i
stream_longer s i r (a, tapa, (b, scope, (c, word, (d, less, (e, type, (f, count, (g, greater, (l, names, end)))))))) =
    omega (arith, takes_longer terminal.Tapa i a tapa, takes_longer terminal.Scope a b scope, takes_longer terminal.Stream b c word, takes_longer terminal.Less c d less, type_longer s.kind d e type, maybe_longer (λ count. Takes terminal.Comma ⨾ IsCount count) (behind_longer terminal.Comma IsCount count_longer) s.depth e f count, takes_longer terminal.Greater f g greater, separated_longer terminal.Comma (λ x. IsName x ⨾ MayBeLabelled) stream_name_longer s.names g l names, takes_longer terminal.Semicolon l r end)

-- the third symbol
pub third : (i j k : Symbols) → Takes terminal.Tapa i j → Takes terminal.Scope j k → drop 2 i ≡ k
third i j k (x, e, is) (y, f, rest) = rw (is, rest) refl

-- ---- invocations

mode_complete : (m : Option Name) (i r : Symbols) → Maybe IsMode m i r → sees terminal.Less r ≡ false → mode i ≡ Ok (m, r)
unfolding mode
mode_complete None i r is free = if_false _ (ap (sees terminal.Less) is ∙ free) (ap (λ (j : Symbols). done (None, j)) is)
mode_complete (Some x) i r (a, less, (b, tapa, (c, scope, (d, named, greater)))) free =
    if_true _ (seen_is terminal.Less i a less)
    (rw (dropped terminal.Less i a less)
    (then_is _ tt b (expect_is terminal.Tapa a b tapa)
    (then_is _ tt c (expect_is terminal.Scope b c scope)
    (then_is _ x d (plain_is x c d named)
    (then_is _ tt r (expect_is terminal.Greater d r greater) refl)))))

mode_longer : (m : Name) (i r : Symbols) → IsMode m i r → length r < length i
mode_longer x i r (a, less, (b, tapa, (c, scope, (d, (s, h, is), greater)))) =
    omega (arith, takes_longer terminal.Less i a less, takes_longer terminal.Tapa a b tapa, takes_longer terminal.Scope b c scope, ap length is, takes_longer terminal.Greater d r greater)

abbrev argument_tree : Place → ExpressionTree → ArgumentTree
argument_tree at e = record { place = at; value = e }

argument_told : (limit levels : ℕ) (R : Readers) → LevelTells limit levels R → (a : ArgumentTree) (i r : Symbols) (k : IsArgument a i r) → Ends expression_level (next r)
    → Told (over_argument limit levels a i r k) (a, r) (invocation_argument limit R i)
unfolding invocation_argument
argument_told limit levels R h a i r k ends =
    told_after _ a.value r (whole_told expression_level levels limit R.expression h.expressions.expression i a.value r k.1 ends) (ap (λ p. done (argument_tree p a.value, r)) (stands i a.place k.0))

pub argument_longer : (a : ArgumentTree) (i r : Symbols) → IsArgument a i r → length r < length i
argument_longer a i r h = expression_longer expression_level a.value i r h.1

-- the arguments of an invocation, each behind a comma
abbrev over_arguments : (limit levels : ℕ) → Over (λ a. Takes terminal.Comma ⨾ IsArgument a)
over_arguments limit levels = over_behind (Takes terminal.Comma) IsArgument (over_argument limit levels)

arguments_read : (limit levels : ℕ) (R : Readers) → LevelTells limit levels R
    → TellsAll (λ a. Takes terminal.Comma ⨾ IsArgument a) (over_arguments limit levels) (sees terminal.Comma) (skip >> invocation_argument limit R) (λ r. Ends expression_level (next r))
arguments_read limit levels R h = record {
  reads = λ a i r k ends. told_by (ap (invocation_argument limit R) (dropped terminal.Comma i k.0 k.1)) (argument_told limit levels R h a k.0 r k.2 ends);
  begins = λ a i r k. (seen_is terminal.Comma i k.0 k.1, ends_at expression_level terminal.Comma i k.0 k.1 refl);
  longer = behind_longer terminal.Comma IsArgument argument_longer;
}

pub invocation_longer : (x : InvocationTree) (i r : Symbols) → IsInvocation x i r → length r < length i
invocation_longer x i r (a, dot, (b, word, (c, mode, (d, begin, (e, named, (f, all, close)))))) =
    omega (arith, takes_longer terminal.Dot i a dot, takes_longer terminal.Invoke a b word, maybe_longer IsMode mode_longer x.mode b c mode, takes_longer terminal.LeftParen c d begin, name_longer x.task d e named, each_longer (λ a. Takes terminal.Comma ⨾ IsArgument a) (behind_longer terminal.Comma IsArgument argument_longer) x.arguments e f all, takes_longer terminal.RightParen f r close)

module _ (limit levels : ℕ) (inner : Option Readers) (h : LevelMayTell limit levels inner) where
  depth_told : (c : Option CountTree) (i r : Symbols) (k : Maybe (λ count. Takes terminal.Comma ⨾ IsCount count) c i r) → sees terminal.Comma r ≡ false
      → Told (over_maybe (λ count. Takes terminal.Comma ⨾ IsCount count) (over_behind (Takes terminal.Comma) IsCount (over_count limit levels)) c i r k) (c, r) (depth limit inner i)
  unfolding depth
  depth_told None i r is free = told_ok (if_false _ (ap (sees terminal.Comma) is ∙ free) (ap (λ (j : Symbols). done (None, j)) is))
  depth_told (Some count) i r (j, comma, is) free =
      told_true _ (seen_is terminal.Comma i j comma) (rw (dropped terminal.Comma i j comma) (told_after _ count r (counted_told limit levels inner h count j r is) refl))

  stream_told : (s : StreamTree) (i r : Symbols) (k : IsStream s i r) → Told (over_stream limit levels s i r k) (s, r) (stream limit inner i)
  unfolding stream same
  stream_told s i r (a, tapa, (b, scope, (c, word, (d, less, (e, type, (f, count, (g, greater, (l, names, end)))))))) =
      told_behind _ tt a (expect_is terminal.Tapa i a tapa)
      (told_behind _ tt b (expect_is terminal.Scope a b scope)
      (told_behind _ tt c (expect_is terminal.Stream b c word)
      (told_behind _ tt d (expect_is terminal.Less c d less)
      (told_behind _ s.kind e (type_complete s.kind d e type (depth_begins s.depth e f g count greater))
      (told_after _ s.depth f (depth_told s.depth e f count (sees_other terminal.Greater terminal.Comma f g greater refl))
      (then_is _ tt g (expect_is terminal.Greater f g greater)
      (then_is _ s.names l
      (separated_is terminal.Comma (λ x. IsName x ⨾ MayBeLabelled) stream_name (λ r. sees terminal.LeftParen r ≡ false) stream_name_complete stream_name_longer
      (λ i j comma. sees_other terminal.Comma terminal.LeftParen i j comma refl) s.names g l names
      (sees_other terminal.Semicolon terminal.Comma l r end refl) (sees_other terminal.Semicolon terminal.LeftParen l r end refl))
      (then_is _ tt r (expect_is terminal.Semicolon l r end) refl))))))))

  streams_read : TellsAll IsStream (over_stream limit levels) (λ i. sees terminal.Stream (drop 2 i)) (stream limit inner) (λ r. Unit {0})
  streams_read = record {
    reads = λ s i r k free. stream_told s i r k;
    begins = λ s i r k. (rw (third i k.0 k.2.0 k.1 k.2.1) (seen_is terminal.Stream k.2.0 k.2.2.0 k.2.2.1), tt);
    longer = stream_longer;
  }

  pub streams_told : (xs : List StreamTree) (i r : Symbols) (k : Each IsStream xs i r) → sees terminal.Stream (drop 2 r) ≡ false
      → Told (over_each IsStream (over_stream limit levels) xs i r k) (xs, r) (streams limit inner i)
  streams_told xs i r k stop = repeat_told IsStream (over_stream limit levels) (λ i. sees terminal.Stream (drop 2 i)) (stream limit inner) (λ r. Unit {0}) streams_read xs i r k stop tt

  invocation_told : (x : InvocationTree) (i r : Symbols) (k : IsInvocation x i r) → Told (over_invocation limit levels x i r k) (x, r) (invocation limit inner i)
  unfolding invocation same over_invocation
  invocation_told x i r (a, dot, (b, word, (c, mode, (d, begin, (e, named, (f, all, close)))))) =
      told_behind _ tt a (expect_is terminal.Dot i a dot)
      (told_behind _ tt b (expect_is terminal.Invoke a b word)
      (told_behind _ x.mode c (mode_complete x.mode b c mode (sees_other terminal.LeftParen terminal.Less c d begin refl))
      (told_opened (LevelTells limit) _ levels inner terminal.LeftParen c d _ h begin
      (λ R less tells. told_behind _ x.task e (name_is x.task d e named)
      (told_after _ x.arguments f
      (repeat_told (λ a. Takes terminal.Comma ⨾ IsArgument a) (over_arguments limit less) (sees terminal.Comma) (skip >> invocation_argument limit R) (λ r. Ends expression_level (next r))
      (arguments_read limit less R tells) x.arguments e f all
      (sees_other terminal.RightParen terminal.Comma f r close refl) (ends_at expression_level terminal.RightParen f r close refl))
      (then_is _ tt r (expect_is terminal.RightParen f r close) refl))))))

  invocations_read : TellsAll IsInvocation (over_invocation limit levels) (sees terminal.Dot) (invocation limit inner) (λ r. Unit {0})
  invocations_read = record {
    reads = λ x i r k free. invocation_told x i r k;
    begins = λ x i r k. (seen_is terminal.Dot i k.0 k.1, tt);
    longer = invocation_longer;
  }

  chained_told : (xs : List InvocationTree) (i r : Symbols) (k : EachOfSome IsInvocation xs i r) → sees terminal.Dot r ≡ false
      → Told (over_some IsInvocation (over_invocation limit levels) xs i r k) (xs, r) (chained limit inner i)
  unfolding chained over_some
  chained_told [] i r k stop = absurd k
  chained_told (x ∷ xs) i r (j, first, rest) stop =
      told_then _ x j (invocation_told x i j first)
      (repeat_one_told IsInvocation (over_invocation limit levels) (sees terminal.Dot) (invocation limit inner) (λ r. Unit {0}) invocations_read x xs j r rest stop tt)

  pub invocations_told : (xs : List InvocationTree) (i a b c d e f r : Symbols) → Takes terminal.Tapa i a → Takes terminal.Scope a b → Takes terminal.Task b c → Takes terminal.LeftParen c d
      → Takes terminal.RightParen d e → (k : EachOfSome IsInvocation xs e f) → Takes terminal.Semicolon f r
      → Told (over_some IsInvocation (over_invocation limit levels) xs e f k) (xs, r) (invocations limit inner i)
  unfolding invocations same
  invocations_told xs i a b c d e f r tapa scope word begin close all end =
      told_behind _ tt a (expect_is terminal.Tapa i a tapa)
      (told_behind _ tt b (expect_is terminal.Scope a b scope)
      (told_behind _ tt c (expect_is terminal.Task b c word)
      (told_behind _ tt d (expect_is terminal.LeftParen c d begin)
      (told_behind _ tt e (expect_is terminal.RightParen d e close)
      (told_after _ xs f (chained_told xs e f all (sees_other terminal.Semicolon terminal.Dot f r end refl))
      (then_is _ tt r (expect_is terminal.Semicolon f r end) refl))))))
