-- What a tree spells has none of the forms: behind `tapa ::` and a word comes no comma, and behind a name there no `<`.
use Rattle.std.proofs.Common.{◌≡◌, ◌⊎◌, inl, inr, ℕ, suc, Bool, true, false, List, [], ◌∷◌, Option, Some, None, refl, sym, ap, subst, ◌∙◌}
use denote.Enum.Bare.{true_same}
use Rattle.tapa_base.specs.declared.kind.Kind.{Kind}
use Rattle.tapa_base.specs.declared.kind.Kind.TheVariants as kind
use Rattle.tapa_base.specs.Spans.{◌⨾◌, Nothing, ◌∣◌, Is, Maybe, When, Each, EachOfSome, Separated, SeparatedOrNone}
use Rattle.tapa_syntax.specs.contracts.terminal.Terminal.{the_type}
use Rattle.tapa_syntax.specs.declared.terminal.Terminal.{Terminal}
use Rattle.tapa_syntax.specs.declared.terminal.Terminal.TheVariants as terminal
use Rattle.tapa_syntax.specs.declared.tree.Name.{Name}
use Rattle.tapa_syntax.specs.declared.tree.AttributeArgument.{AttributeArgument}
use Rattle.tapa_syntax.specs.declared.tree.AttributeArgument.TheVariants as argument_form
use Rattle.tapa_syntax.specs.declared.tree.Parameter.{Parameter}
use Rattle.tapa_syntax.specs.declared.tree.Parameter.TheVariants as parameter
use Rattle.tapa_syntax.specs.Symbols.{Symbol}
use Rattle.tapa_syntax.specs.Trees.{ExpressionTree, literal, boolean, variable, element, call, nullptr, construct, static_cast, cast, parenthesized, prefix, binary, conditional}
use Rattle.tapa_syntax.specs.Trees.{Expressions, none, one, PlaceTree, variable_place, element_place, ActionTree, call_action, write, read, assign, postfix, prefix_step, CountForm}
use Rattle.tapa_syntax.specs.Trees.{literal_count, name_count, parenthesized_count, CountTree, DeclaratorTree, plain, initialized, array, DeclarationTree, AttributeTree, StartTree}
use Rattle.tapa_syntax.specs.Trees.{no_start, declare_start, act_start, HeadTree, StatementTree, attributed, empty, block, declare, act, if_only, if_else, while, for, while_not_eot}
use Rattle.tapa_syntax.specs.Trees.{break, continue, Statements, no_statement, statement_then, StreamTree, ArgumentTree, InvocationTree, BodyTree, leaf, upper, TaskTree, ItemTree}
use Rattle.tapa_syntax.specs.Trees.{constant, task}
use Rattle.tapa_syntax.specs.Grammar.{Part, Takes, May, MeansTree, IsName, IsPlainName, is_name, named, IsOne, AreWords, IsType, word_kind, sized_kind, prefix_operator_of}
use Rattle.tapa_syntax.specs.Grammar.{binary_operator_of, assignment_operator_of, step_operator_of, binds_at, sum_level, or_level, expression_level, argument_level, IsExpression}
use Rattle.tapa_syntax.specs.Grammar.{AreArguments, AreMoreArguments, IsPlace, IsAction, IsCountForm, IsCount, IsDeclarator, IsDeclaration, IsAttributeArgument, AreAttributeArguments}
use Rattle.tapa_syntax.specs.Grammar.{IsAttribute, IsStart, IsHead, IsStatement, AreStatements, IsParameter, MayBeLabelled, IsStream, IsArgument, IsMode, IsInvocation, IsBody, IsTask}
use Rattle.tapa_syntax.specs.Grammar.{IsItem, IsTreeOf}
use Rattle.tapa_parse_expression.specs.Readers.{same}

abbrev pub Symbols : Type 0
Symbols = List Symbol

-- what stands behind a `tapa`
abbrev pub Goes : Symbols → Type 0
Goes (s ∷ n ∷ m ∷ i) = (m.terminal ≡ terminal.Comma → ⊥) × (n.terminal ≡ terminal.Name → m.terminal ≡ terminal.Less → ⊥)
Goes _ = Unit {0}

abbrev pub Unformed : Symbols → Type 0
Unformed [] = Unit {0}
Unformed (x ∷ i) = (x.terminal ≡ terminal.Tapa → Goes i) × Unformed i

-- a part has no form, where what follows has none
abbrev Keeps : Part → Type 0
Keeps P = (i j : Symbols) → P i j → Unformed j → Unformed i

-- ---- single symbols

other : (m n : Terminal) → same m n ≡ false → m ≡ n → ⊥
unfolding same
other m n e is = let t : same m n ≡ true = true_same the_type m n is in absurd (cc)

symbol : (Q : Symbol → Type 0) → ((x : Symbol) → Q x → x.terminal ≡ terminal.Tapa → ⊥) → Keeps (Is Q)
symbol Q apart i j (x, h, is) k = subst Unformed (sym is) ((λ e. absurd (apart x h e)), k)

takes : (m : Terminal) → same m terminal.Tapa ≡ false → Keeps (Takes m)
takes m e = symbol (λ x. x.terminal ≡ m) (λ x h is. other m terminal.Tapa e (sym h ∙ is))

means_none : {A : Type 0} (table : Terminal → Option A) (a : A) (x : Symbol) → table terminal.Tapa ≡ None → table x.terminal ≡ Some a → x.terminal ≡ terminal.Tapa → ⊥
means_none table a x out h is = let e : None ≡ Some a = sym out ∙ ap table (sym is) ∙ h in absurd (cc)

means : {A : Type 0} (table : Terminal → Option A) (a : A) → table terminal.Tapa ≡ None → Keeps (MeansTree table a)
means table a out = symbol (λ x. table x.terminal ≡ Some a) (λ x h is. means_none table a x out h is)

no_name : (x : Symbol) → is_name x.terminal ≡ true → x.terminal ≡ terminal.Tapa → ⊥
no_name x h is = let e : false ≡ true = ap is_name (sym is) ∙ h in absurd (cc)

name_keeps : (x : Name) → Keeps (IsName x)
name_keeps x = symbol (λ s. (is_name s.terminal ≡ true) × (named s ≡ x)) (λ s h is. no_name s h.0 is)

plain_keeps : (x : Name) → Keeps (IsPlainName x)
unfolding same
plain_keeps x = symbol (λ s. (s.terminal ≡ terminal.Name) × (named s ≡ x)) (λ s h is. other terminal.Name terminal.Tapa refl (sym h.0 ∙ is))

-- ---- `tapa ::`, a word, and what follows

goes : (s n m : Symbol) (i : Symbols) (t : Terminal) → m.terminal ≡ t → same t terminal.Comma ≡ false → (n.terminal ≡ terminal.Name → t ≡ terminal.Less → ⊥) → Goes (s ∷ n ∷ m ∷ i)
goes s n m i t is comma less = ((λ e. other t terminal.Comma comma (sym is ∙ e)), (λ e f. less e (sym is ∙ f)))

selected : (N : Symbol → Type 0) (t : Terminal) (R : Part) → ((z : Symbol) → N z → z.terminal ≡ terminal.Tapa → ⊥) → ((z : Symbol) → N z → z.terminal ≡ terminal.Name → t ≡ terminal.Less → ⊥)
    → same t terminal.Tapa ≡ false → same t terminal.Comma ≡ false → Keeps R → Keeps (Takes terminal.Tapa ⨾ Takes terminal.Scope ⨾ Is N ⨾ Takes t ⨾ R)
unfolding same
selected N t R apart less tapa comma rest i j (a, (x, e, is), (b, (y, f, is2), (c, (z, h, is3), (d, (m, g, is4), r)))) k =
    let last : Unformed (m ∷ d) = ((λ p. absurd (other t terminal.Tapa tapa (sym g ∙ p))), rest d j r k) in
    let third : Unformed (z ∷ m ∷ d) = ((λ p. absurd (apart z h p)), last) in
    let second : Unformed (y ∷ z ∷ m ∷ d) = ((λ p. absurd (other terminal.Scope terminal.Tapa refl (sym f ∙ p))), third) in
    let first : Unformed (x ∷ y ∷ z ∷ m ∷ d) = ((λ p. goes y z m d t g comma (less z h)), second) in
    subst Unformed (sym (is ∙ ap (λ l. x ∷ l) (is2 ∙ ap (λ l. y ∷ l) (is3 ∙ ap (λ l. z ∷ l) is4)))) first

selects : (n t : Terminal) (R : Part) → same n terminal.Tapa ≡ false → same n terminal.Name ≡ false → same t terminal.Tapa ≡ false → same t terminal.Comma ≡ false
    → Keeps R → Keeps (Takes terminal.Tapa ⨾ Takes terminal.Scope ⨾ Takes n ⨾ Takes t ⨾ R)
selects n t R a b c d rest =
    selected (λ x. x.terminal ≡ n) t R (λ z h p. other n terminal.Tapa a (sym h ∙ p)) (λ z h p q. other n terminal.Name b (sym h ∙ p)) c d rest

names : (x : Name) (t : Terminal) (R : Part) → same t terminal.Less ≡ false → same t terminal.Tapa ≡ false → same t terminal.Comma ≡ false
    → Keeps R → Keeps (Takes terminal.Tapa ⨾ Takes terminal.Scope ⨾ IsPlainName x ⨾ Takes t ⨾ R)
unfolding same
names x t R a b c rest =
    selected (λ s. (s.terminal ≡ terminal.Name) × (named s ≡ x)) t R (λ z h p. other terminal.Name terminal.Tapa refl (sym h.0 ∙ p)) (λ z h p q. other t terminal.Less a q) b c rest

-- ---- parts one after another

nothing : Keeps Nothing
nothing i j is k = subst Unformed (sym is) k

followed : (P Q : Part) → Keeps P → Keeps Q → Keeps (P ⨾ Q)
followed P Q p q i j (m, h, k) u = p i m h (q m j k u)

either : (P Q : Part) → Keeps P → Keeps Q → Keeps (P ∣ Q)
either P Q p q i j (inl h) u = p i j h u
either P Q p q i j (inr h) u = q i j h u

behind : (m : Terminal) (Q : Part) → same m terminal.Tapa ≡ false → Keeps Q → Keeps (Takes m ⨾ Q)
behind m Q e q = followed (Takes m) Q (takes m e) q

each : {A : Type 0} (P : A → Part) → ((x : A) → Keeps (P x)) → (xs : List A) → Keeps (Each P xs)
each P h [] = nothing
each P h (x ∷ xs) = followed (P x) (Each P xs) (h x) (each P h xs)

some : {A : Type 0} (P : A → Part) → ((x : A) → Keeps (P x)) → (xs : List A) → Keeps (EachOfSome P xs)
some P h [] = λ i j k u. absurd k
some P h (x ∷ xs) = followed (P x) (Each P xs) (h x) (each P h xs)

separated : {A : Type 0} (m : Terminal) (P : A → Part) → same m terminal.Tapa ≡ false → ((x : A) → Keeps (P x)) → (xs : List A) → Keeps (Separated (Takes m) P xs)
separated m P e h [] = λ i j k u. absurd k
separated m P e h (x ∷ xs) = followed (P x) (Each (λ y. Takes m ⨾ P y) xs) (h x) (each (λ y. Takes m ⨾ P y) (λ y. behind m (P y) e (h y)) xs)

listed : {A : Type 0} (m : Terminal) (P : A → Part) → same m terminal.Tapa ≡ false → ((x : A) → Keeps (P x)) → (xs : List A) → Keeps (SeparatedOrNone (Takes m) P xs)
listed m P e h [] = nothing
listed m P e h (x ∷ xs) = separated m P e h (x ∷ xs)

maybe : {A : Type 0} (P : A → Part) → ((x : A) → Keeps (P x)) → (x : Option A) → Keeps (Maybe P x)
maybe P h None = nothing
maybe P h (Some x) = h x

when : (b : Bool) (m : Terminal) → same m terminal.Tapa ≡ false → Keeps (When b (Takes m))
when true m e = takes m e
when false m e = nothing

may : (m : Terminal) → same m terminal.Tapa ≡ false → Keeps (May m)
may m e = either (Takes m) Nothing (takes m e) nothing

-- ---- types and expressions

one_keeps : (k : Kind) → Keeps (IsOne k)
unfolding same
one_keeps k i j (inl h) u = means word_kind k refl i j h u
one_keeps k i j (inr (inl h)) u = means sized_kind k refl i j h u
one_keeps k i j (inr (inr (a, first, (b, scope, last)))) u = takes terminal.Std refl i a first (takes terminal.Scope refl a b scope (means sized_kind k refl b j last u))

words_keep : (k : Kind) → Keeps (AreWords k)
unfolding same
words_keep kind.U32 i j (a, first, last) u = takes terminal.Unsigned refl i a first (takes terminal.Int refl a j last u)
words_keep kind.U16 i j (a, first, (b, second, last)) u = takes terminal.Unsigned refl i a first (takes terminal.Short refl a b second (may terminal.Int refl b j last u))
words_keep kind.U64 i j (a, first, (b, second, (c, third, last))) u =
    takes terminal.Unsigned refl i a first (takes terminal.Long refl a b second (may terminal.Long refl b c third (may terminal.Int refl c j last u)))
words_keep kind.I16 i j (a, first, last) u = takes terminal.Short refl i a first (takes terminal.Int refl a j last u)
words_keep kind.I64 i j (a, first, (b, second, last)) u = takes terminal.Long refl i a first (may terminal.Long refl a b second (may terminal.Int refl b j last u))
words_keep kind.Bool i j h u = absurd h
words_keep kind.I8 i j h u = absurd h
words_keep kind.U8 i j h u = absurd h
words_keep kind.I32 i j h u = absurd h

type_keeps : (k : Kind) → Keeps (IsType k)
type_keeps k i j (inl h) u = one_keeps k i j h u
type_keeps k i j (inr h) u = words_keep k i j h u

mutual
  unfolding same

  expression_keeps : (n : ℕ) (e : ExpressionTree) (i j : Symbols) → IsExpression n e i j → Unformed j → Unformed i
  expression_keeps n (literal k v) i j (x, h, is) u = takes terminal.Literal refl i j (x, h.0, is) u
  expression_keeps n (boolean true) i j h u = takes terminal.True refl i j h u
  expression_keeps n (boolean false) i j h u = takes terminal.False refl i j h u
  expression_keeps n (variable x) i j h u = name_keeps x i j h u
  expression_keeps n (element x e) i j (a, named, (b, begin, (c, inside, close))) u =
      name_keeps x i a named (takes terminal.LeftBracket refl a b begin (expression_keeps expression_level e b c inside (takes terminal.RightBracket refl c j close u)))
  expression_keeps n (call x y es) i j (a, named, (b, dot, (c, method, (d, begin, (f, inside, close))))) u =
      name_keeps x i a named (takes terminal.Dot refl a b dot (plain_keeps y b c method (takes terminal.LeftParen refl c d begin
      (arguments_keep es d f inside (takes terminal.RightParen refl f j close u)))))
  expression_keeps n nullptr i j h u = takes terminal.Nullptr refl i j h.1 u
  expression_keeps n (construct k e) i j (a, type, (b, begin, (c, inside, close))) u =
      one_keeps k i a type (takes terminal.LeftParen refl a b begin (expression_keeps expression_level e b c inside (takes terminal.RightParen refl c j close u)))
  expression_keeps n (static_cast k e) i j (a, word, (b, less, (c, type, (d, greater, (f, begin, (g, inside, close)))))) u =
      takes terminal.StaticCast refl i a word (takes terminal.Less refl a b less (type_keeps k b c type (takes terminal.Greater refl c d greater
      (takes terminal.LeftParen refl d f begin (expression_keeps expression_level e f g inside (takes terminal.RightParen refl g j close u))))))
  expression_keeps n (cast k e) i j (a, begin, (b, type, (c, close, inside))) u =
      takes terminal.LeftParen refl i a begin (type_keeps k a b type (takes terminal.RightParen refl b c close (expression_keeps 0 e c j inside u)))
  expression_keeps n (parenthesized e) i j (a, begin, (b, inside, close)) u =
      takes terminal.LeftParen refl i a begin (expression_keeps expression_level e a b inside (takes terminal.RightParen refl b j close u))
  expression_keeps n (prefix o at e) i j (a, (x, h, is), inside) u = means prefix_operator_of o refl i a (x, h.0, is) (expression_keeps 0 e a j inside u)
  expression_keeps n (binary o at a b) i j (fits, (c, first, (d, (x, h, is), second))) u =
      expression_keeps (suc (binds_at o)) a i c first (means binary_operator_of o refl c d (x, h.0, is) (expression_keeps (binds_at o) b d j second u))
  expression_keeps n (conditional at c a b) i j (fits, (d, test, (f, (x, h, is), (g, first, (k, colon, second))))) u =
      expression_keeps or_level c i d test (takes terminal.Question refl d f (x, h.0, is)
      (expression_keeps expression_level a f g first (takes terminal.Colon refl g k colon (expression_keeps expression_level b k j second u))))

  arguments_keep : (es : Expressions) (i j : Symbols) → AreArguments es i j → Unformed j → Unformed i
  arguments_keep none i j is u = subst Unformed (sym is) u
  arguments_keep (one e es) i j (a, first, rest) u = expression_keeps argument_level e i a first (more_keep es a j rest u)

  more_keep : (es : Expressions) (i j : Symbols) → AreMoreArguments es i j → Unformed j → Unformed i
  more_keep none i j is u = subst Unformed (sym is) u
  more_keep (one e es) i j (a, comma, (b, first, rest)) u = takes terminal.Comma refl i a comma (expression_keeps argument_level e a b first (more_keep es b j rest u))

-- ---- actions, declarations, attributes

expressions_keep : (n : ℕ) (e : ExpressionTree) → Keeps (IsExpression n e)
expressions_keep n e = λ i j h u. expression_keeps n e i j h u

place_keeps : (p : PlaceTree) → Keeps (IsPlace p)
unfolding same
place_keeps (variable_place x) i j h u = name_keeps x i j h u
place_keeps (element_place x e) i j (a, named, (b, begin, (c, inside, close))) u =
    name_keeps x i a named (takes terminal.LeftBracket refl a b begin (expression_keeps expression_level e b c inside (takes terminal.RightBracket refl c j close u)))

action_keeps : (a : ActionTree) → Keeps (IsAction a)
unfolding same
action_keeps (call_action x y es) i j (a, named, (b, dot, (c, method, (d, begin, (f, all, close))))) u =
    name_keeps x i a named (takes terminal.Dot refl a b dot (plain_keeps y b c method (takes terminal.LeftParen refl c d begin
    (listed terminal.Comma (IsExpression argument_level) refl (expressions_keep argument_level) es d f all (takes terminal.RightParen refl f j close u)))))
action_keeps (write x es) i j (a, named, all) u =
    name_keeps x i a named (some (λ e. Takes terminal.ShiftLeft ⨾ IsExpression sum_level e)
    (λ e. behind terminal.ShiftLeft (IsExpression sum_level e) refl (expressions_keep sum_level e)) es a j all u)
action_keeps (read x places) i j (a, named, all) u =
    name_keeps x i a named (some (λ p. Takes terminal.ShiftRight ⨾ IsPlace p) (λ p. behind terminal.ShiftRight (IsPlace p) refl (place_keeps p)) places a j all u)
action_keeps (assign p o at e) i j (a, target, (b, (x, h, is), value)) u =
    place_keeps p i a target (means assignment_operator_of o refl a b (x, h.0, is) (expression_keeps expression_level e b j value u))
action_keeps (postfix p step at) i j (a, target, (x, h, is)) u = place_keeps p i a target (means step_operator_of step refl a j (x, h.0, is) u)
action_keeps (prefix_step step at p) i j (a, (x, h, is), target) u = means step_operator_of step refl i a (x, h.0, is) (place_keeps p a j target u)

form_keeps : (c : CountForm) → Keeps (IsCountForm c)
unfolding same
form_keeps (literal_count k v) i j (x, h, is) u = takes terminal.Literal refl i j (x, h.0, is) u
form_keeps (name_count x) i j h u = name_keeps x i j h u
form_keeps (parenthesized_count e) i j (a, begin, (b, inside, close)) u =
    takes terminal.LeftParen refl i a begin (expression_keeps expression_level e a b inside (takes terminal.RightParen refl b j close u))

count_keeps : (c : CountTree) → Keeps (IsCount c)
count_keeps c i j h u = form_keeps c.form i j h.1 u

declarator_keeps : (d : DeclaratorTree) → Keeps (IsDeclarator d)
unfolding same
declarator_keeps (plain x) i j h u = name_keeps x i j h u
declarator_keeps (initialized x e) i j (a, named, (b, sign, value)) u = name_keeps x i a named (takes terminal.Assign refl a b sign (expression_keeps expression_level e b j value u))
declarator_keeps (array x c) i j (a, named, (b, begin, (d, inside, close))) u =
    name_keeps x i a named (takes terminal.LeftBracket refl a b begin (count_keeps c b d inside (takes terminal.RightBracket refl d j close u)))

declaration_keeps : (d : DeclarationTree) → Keeps (IsDeclaration d)
unfolding same
declaration_keeps d i j (a, word, (b, type, names)) u =
    when d.constant terminal.Const refl i a word (type_keeps d.kind a b type (separated terminal.Comma IsDeclarator refl declarator_keeps d.names b j names u))

attribute_argument_keeps : (a : AttributeArgument) → Keeps (IsAttributeArgument a)
unfolding same
attribute_argument_keeps (argument_form.Literal k v) i j (x, h, is) u = takes terminal.Literal refl i j (x, h.0, is) u
attribute_argument_keeps argument_form.Str i j h u = takes terminal.Str refl i j h u
attribute_argument_keeps (argument_form.Name x) i j h u = name_keeps x i j h u

-- behind the name of an attribute: its arguments, if it has some, and a bracket
abbrev Attributed : Name → Option (List AttributeArgument) → Part
Attributed x arguments = Takes terminal.Tapa ⨾ Takes terminal.Scope ⨾ IsPlainName x ⨾ AreAttributeArguments arguments ⨾ Takes terminal.RightBracket ⨾ Takes terminal.RightBracket

attributed_keeps : (x : Name) (arguments : Option (List AttributeArgument)) → Keeps (Attributed x arguments)
unfolding same
attributed_keeps x None i j (a, tapa, (b, scope, (c, named, (d, is, rest)))) u =
    names x terminal.RightBracket (Takes terminal.RightBracket) refl refl refl (takes terminal.RightBracket refl) i j
    (a, tapa, (b, scope, (c, named, subst (λ (l : Symbols). (Takes terminal.RightBracket ⨾ Takes terminal.RightBracket) l j) (sym is) rest))) u
attributed_keeps x (Some xs) i j (a, tapa, (b, scope, (c, named, (d, (f, begin, inside), rest)))) u =
    names x terminal.LeftParen ((SeparatedOrNone (Takes terminal.Comma) IsAttributeArgument xs ⨾ Takes terminal.RightParen) ⨾ (Takes terminal.RightBracket ⨾ Takes terminal.RightBracket))
    refl refl refl
    (followed (SeparatedOrNone (Takes terminal.Comma) IsAttributeArgument xs ⨾ Takes terminal.RightParen) (Takes terminal.RightBracket ⨾ Takes terminal.RightBracket)
    (followed (SeparatedOrNone (Takes terminal.Comma) IsAttributeArgument xs) (Takes terminal.RightParen)
    (listed terminal.Comma IsAttributeArgument refl attribute_argument_keeps xs) (takes terminal.RightParen refl))
    (behind terminal.RightBracket (Takes terminal.RightBracket) refl (takes terminal.RightBracket refl)))
    i j (a, tapa, (b, scope, (c, named, (f, begin, (d, inside, rest))))) u

attribute_keeps : (a : AttributeTree) → Keeps (IsAttribute a)
unfolding same
attribute_keeps x i j (a, first, (b, second, rest)) u = takes terminal.LeftBracket refl i a first (takes terminal.LeftBracket refl a b second (attributed_keeps x.name x.arguments b j rest u))

-- ---- statements

start_keeps : (s : StartTree) → Keeps (IsStart s)
start_keeps no_start i j h u = nothing i j h u
start_keeps (declare_start d) i j h u = declaration_keeps d i j h u
start_keeps (act_start a) i j h u = action_keeps a i j h u

head_keeps : (h : HeadTree) → Keeps (IsHead h)
unfolding same
head_keeps head i j (a, start, (b, first, (c, test, (d, second, step)))) u =
    start_keeps head.start i a start (takes terminal.Semicolon refl a b first (maybe (IsExpression expression_level) (expressions_keep expression_level) head.test b c test
    (takes terminal.Semicolon refl c d second (maybe IsAction action_keeps head.step d j step u))))

mutual
  unfolding same

  statement_keeps : (s : StatementTree) (i j : Symbols) → IsStatement s i j → Unformed j → Unformed i
  statement_keeps (attributed attributes s) i j (bare, (a, all, h)) u = some IsAttribute attribute_keeps attributes i a all (statement_keeps s a j h u)
  statement_keeps empty i j h u = takes terminal.Semicolon refl i j h u
  statement_keeps (block ss) i j (a, begin, (b, all, close)) u = takes terminal.LeftBrace refl i a begin (statements_keep ss a b all (takes terminal.RightBrace refl b j close u))
  statement_keeps (declare d) i j (a, h, end) u = declaration_keeps d i a h (takes terminal.Semicolon refl a j end u)
  statement_keeps (act x) i j (a, h, end) u = action_keeps x i a h (takes terminal.Semicolon refl a j end u)
  statement_keeps (if_only c s) i j (a, word, (b, begin, (d, test, (f, close, h)))) u =
      takes terminal.If refl i a word (takes terminal.LeftParen refl a b begin (expression_keeps expression_level c b d test (takes terminal.RightParen refl d f close (statement_keeps s f j h u))))
  statement_keeps (if_else c s t) i j (closed, (a, word, (b, begin, (d, test, (f, close, (g, h, (k, last, r))))))) u =
      takes terminal.If refl i a word (takes terminal.LeftParen refl a b begin (expression_keeps expression_level c b d test (takes terminal.RightParen refl d f close
      (statement_keeps s f g h (takes terminal.Else refl g k last (statement_keeps t k j r u))))))
  statement_keeps (while c s) i j (a, word, (b, begin, (d, test, (f, close, h)))) u =
      takes terminal.While refl i a word (takes terminal.LeftParen refl a b begin (expression_keeps expression_level c b d test (takes terminal.RightParen refl d f close (statement_keeps s f j h u))))
  statement_keeps (for head s) i j (a, word, (b, begin, (d, inside, (f, close, h)))) u =
      takes terminal.For refl i a word (takes terminal.LeftParen refl a b begin (head_keeps head b d inside (takes terminal.RightParen refl d f close (statement_keeps s f j h u))))
  statement_keeps (while_not_eot x s) i j (a, word, (b, begin, (d, named, (f, close, h)))) u =
      takes terminal.WhileNotEot refl i a word (takes terminal.LeftParen refl a b begin (name_keeps x b d named (takes terminal.RightParen refl d f close (statement_keeps s f j h u))))
  statement_keeps (break at) i j (a, (x, h, is), end) u = takes terminal.Break refl i a (x, h.0, is) (takes terminal.Semicolon refl a j end u)
  statement_keeps (continue at) i j (a, (x, h, is), end) u = takes terminal.Continue refl i a (x, h.0, is) (takes terminal.Semicolon refl a j end u)

  statements_keep : (ss : Statements) (i j : Symbols) → AreStatements ss i j → Unformed j → Unformed i
  statements_keep no_statement i j is u = subst Unformed (sym is) u
  statements_keep (statement_then s ss) i j (a, first, rest) u = statement_keeps s i a first (statements_keep ss a j rest u)

-- ---- tasks and files

-- `< T > & name` behind the word of a stream's direction
abbrev Port : Kind → Name → Part
Port k x = IsType k ⨾ Takes terminal.Greater ⨾ Takes terminal.Ampersand ⨾ IsName x

port_keeps : (k : Kind) (x : Name) → Keeps (Port k x)
unfolding same
port_keeps k x i j (a, type, (b, greater, (c, sign, named))) u =
    type_keeps k i a type (takes terminal.Greater refl a b greater (takes terminal.Ampersand refl b c sign (name_keeps x c j named u)))

abbrev Memory : Bool → Kind → Name → Part
Memory is_const k x = When is_const (Takes terminal.Const) ⨾ IsType k ⨾ Takes terminal.Greater ⨾ IsName x

memory_keeps : (is_const : Bool) (k : Kind) (x : Name) → Keeps (Memory is_const k x)
unfolding same
memory_keeps is_const k x i j (a, word, (b, type, (c, greater, named))) u =
    when is_const terminal.Const refl i a word (type_keeps k a b type (takes terminal.Greater refl b c greater (name_keeps x c j named u)))

parameter_keeps : (p : Parameter) → Keeps (IsParameter p)
unfolding same
parameter_keeps (parameter.InputStream k x) i j h u = selects terminal.Istream terminal.Less (Port k x) refl refl refl refl (port_keeps k x) i j h u
parameter_keeps (parameter.OutputStream k x) i j h u = selects terminal.Ostream terminal.Less (Port k x) refl refl refl refl (port_keeps k x) i j h u
parameter_keeps (parameter.Memory is_const k x) i j h u = selects terminal.Mmap terminal.Less (Memory is_const k x) refl refl refl refl (memory_keeps is_const k x) i j h u
parameter_keeps (parameter.Scalar is_const k x) i j (a, word, (b, type, named)) u = when is_const terminal.Const refl i a word (type_keeps k a b type (name_keeps x b j named u))

label_keeps : Keeps MayBeLabelled
unfolding same
label_keeps i j (inl (a, begin, (b, text, close))) u = takes terminal.LeftParen refl i a begin (takes terminal.Str refl a b text (takes terminal.RightParen refl b j close u))
label_keeps i j (inr is) u = nothing i j is u

-- what stands behind `tapa :: stream <`
abbrev Streams : StreamTree → Part
Streams s = IsType s.kind ⨾ Maybe (λ count. Takes terminal.Comma ⨾ IsCount count) s.depth
    ⨾ Takes terminal.Greater ⨾ Separated (Takes terminal.Comma) (λ name. IsName name ⨾ MayBeLabelled) s.names ⨾ Takes terminal.Semicolon

streams_keep : (s : StreamTree) → Keeps (Streams s)
unfolding same
streams_keep s i j (a, type, (b, depth, (c, greater, (d, all, end)))) u =
    type_keeps s.kind i a type (maybe (λ count. Takes terminal.Comma ⨾ IsCount count) (λ count. behind terminal.Comma (IsCount count) refl (count_keeps count)) s.depth a b depth
    (takes terminal.Greater refl b c greater (separated terminal.Comma (λ name. IsName name ⨾ MayBeLabelled) refl
    (λ name. followed (IsName name) MayBeLabelled (name_keeps name) label_keeps) s.names c d all
    (takes terminal.Semicolon refl d j end u))))

stream_keeps : (s : StreamTree) → Keeps (IsStream s)
unfolding same
stream_keeps s i j h u = selects terminal.Stream terminal.Less (Streams s) refl refl refl refl (streams_keep s) i j h u

argument_keeps : (a : ArgumentTree) → Keeps (IsArgument a)
argument_keeps a i j h u = expression_keeps expression_level a.value i j h.1 u

mode_keeps : (x : Name) → Keeps (IsMode x)
unfolding same
mode_keeps x i j (a, less, (b, tapa, (c, scope, (d, named, greater)))) u =
    takes terminal.Less refl i a less (names x terminal.Greater Nothing refl refl refl nothing a j (b, tapa, (c, scope, (d, named, (j, greater, refl)))) u)

invocation_keeps : (v : InvocationTree) → Keeps (IsInvocation v)
unfolding same
invocation_keeps v i j (a, dot, (b, word, (c, mode, (d, begin, (f, named, (g, all, close)))))) u =
    takes terminal.Dot refl i a dot (takes terminal.Invoke refl a b word (maybe IsMode mode_keeps v.mode b c mode (takes terminal.LeftParen refl c d begin (name_keeps v.task d f named
    (each (λ x. Takes terminal.Comma ⨾ IsArgument x) (λ x. behind terminal.Comma (IsArgument x) refl (argument_keeps x)) v.arguments f g all (takes terminal.RightParen refl g j close u))))))

-- what stands behind `tapa :: task (`
abbrev Chained : List InvocationTree → Part
Chained invocations = Takes terminal.RightParen ⨾ EachOfSome IsInvocation invocations ⨾ Takes terminal.Semicolon

chained_keep : (invocations : List InvocationTree) → Keeps (Chained invocations)
unfolding same
chained_keep invocations i j (a, close, (b, all, end)) u = takes terminal.RightParen refl i a close (some IsInvocation invocation_keeps invocations a b all (takes terminal.Semicolon refl b j end u))

body_keeps : (b : BodyTree) → Keeps (IsBody b)
unfolding same
body_keeps (leaf ss) i j h u = statements_keep ss i j h u
body_keeps (upper streams invocations) i j (a, declared, rest) u =
    each IsStream stream_keeps streams i a declared (selects terminal.Task terminal.LeftParen (Chained invocations) refl refl refl refl (chained_keep invocations) a j rest u)

item_keeps : (x : ItemTree) → Keeps (IsItem x)
unfolding same
item_keeps (constant attributes k x e) i j (a, all, (b, word, (c, type, (d, named, (f, sign, (g, value, end)))))) u =
    each IsAttribute attribute_keeps attributes i a all (either (Takes terminal.Const) (Takes terminal.Constexpr) (takes terminal.Const refl) (takes terminal.Constexpr refl) a b word
    (type_keeps k b c type (name_keeps x c d named (takes terminal.Assign refl d f sign (expression_keeps expression_level e f g value (takes terminal.Semicolon refl g j end u))))))
item_keeps (task t) i j (a, all, (b, void, (c, named, (d, begin, (f, parameters, (g, close, (k, brace, (l, inside, (x, h, is))))))))) u =
    each IsAttribute attribute_keeps t.attributes i a all (takes terminal.Void refl a b void (name_keeps t.name b c named (takes terminal.LeftParen refl c d begin
    (listed terminal.Comma IsParameter refl parameter_keeps t.parameters d f parameters (takes terminal.RightParen refl f g close (takes terminal.LeftBrace refl g k brace
    (body_keeps t.body k l inside (takes terminal.RightBrace refl l j (x, h.0, is) u))))))))

-- what has a tree has no form
pub tree_unformed : (i : Symbols) (items : List ItemTree) → IsTreeOf i items → Unformed i
tree_unformed i items h = each IsItem item_keeps items i [] h tt
