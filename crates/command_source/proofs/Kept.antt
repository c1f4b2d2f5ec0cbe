-- What a part of the grammar leaves behind it: symbols that are spelled as those before it.
use Rattle.std.proofs.Common.{◌≡◌, inl, inr, ℕ, Bool, true, false, List, [], ◌∷◌, Option, Some, None, subst}
use Rattle.std.specs.List.{AllByRecursion}
use Rattle.tapa_base.specs.declared.kind.Kind.{Kind}
use Rattle.tapa_base.specs.declared.kind.Kind.TheVariants as kind
use Rattle.tapa_syntax.specs.declared.terminal.Terminal.{Terminal}
use Rattle.tapa_syntax.specs.declared.tree.Name.{Name}
use Rattle.tapa_syntax.specs.declared.tree.AttributeArgument.{AttributeArgument}
use Rattle.tapa_syntax.specs.declared.tree.AttributeArgument.TheVariants as attribute_argument
use Rattle.tapa_syntax.specs.declared.tree.Parameter.{Parameter}
use Rattle.tapa_syntax.specs.declared.tree.Parameter.TheVariants as parameter
use Rattle.tapa_syntax.specs.Grammar.{Part, May, MayBeLabelled, is_name, IsOne, AreWords, IsType, IsExpression, AreArguments, AreMoreArguments, argument_level, expression_level, sum_level, IsPlace, IsAction, IsCountForm, IsCount, IsDeclarator, IsDeclaration, IsAttributeArgument, AreAttributeArguments, IsAttribute, IsStart, IsHead, IsStatement, AreStatements, IsParameter, IsStream, IsArgument, IsMode, IsInvocation, IsBody, IsTask, IsItem}
use Rattle.tapa_base.specs.Spans.{◌⨾◌, Nothing, Never, ◌∣◌, Is, Given, Maybe, When, Each, EachOfSome, Separated, SeparatedOrNone}
use Rattle.tapa_syntax.specs.Symbols.{Symbol}
use Rattle.tapa_syntax.specs.Trees.{ExpressionTree, literal, boolean, variable, element, call, nullptr, construct, static_cast, cast, parenthesized, prefix, binary, conditional, Expressions, none, one, PlaceTree, variable_place, element_place, ActionTree, call_action, write, read, assign, postfix, prefix_step, CountForm, literal_count, name_count, parenthesized_count, CountTree, DeclaratorTree, plain, initialized, array, DeclarationTree, AttributeTree, StartTree, no_start, declare_start, act_start, HeadTree, StatementTree, attributed, empty, block, declare, act, if_only, if_else, while, for, while_not_eot, break, continue, Statements, no_statement, statement_then, StreamTree, ArgumentTree, InvocationTree, BodyTree, leaf, upper, TaskTree, ItemTree, constant, task}
use Rattle.command_source.specs.Labels.{IsPlainName}

-- a symbol that may be a name is spelled as one
pub record IsSpelled (x : Symbol) : Type 0 where
  pub plain : is_name x.terminal ≡ true → IsPlainName x.text

abbrev pub AreSpelled : List Symbol → Type 0
AreSpelled symbols = AllByRecursion IsSpelled symbols

-- behind the part stand spelled symbols where it begins with such
pub record Keeps (P : Part) : Type 0 where
  pub kept : (i j : List Symbol) → P i j → AreSpelled i → AreSpelled j

-- ---- how parts are made

pub symbol : {P : Symbol → Type 0} → Keeps (Is P)
symbol {P} = record { kept = λ i j h spelled. (subst AreSpelled h.2 spelled).1 }

pub nothing : Keeps Nothing
nothing = record { kept = λ i j h spelled. subst AreSpelled h spelled }

pub never : Keeps Never
never = record { kept = λ i j h spelled. absurd h }

infixr 9 ◌then◌
pub ◌then◌ : {P Q : Part} → Keeps P → Keeps Q → Keeps (P ⨾ Q)
◌then◌ {P} {Q} p q = record { kept = λ i k h spelled. q.kept h.0 k h.2 (p.kept i h.0 h.1 spelled) }

infixr 8 ◌either◌
pub ◌either◌ : {P Q : Part} → Keeps P → Keeps Q → Keeps (P ∣ Q)
◌either◌ {P} {Q} p q = record { kept = λ i j h spelled. elim h [ inl x ↦ p.kept i j x spelled | inr y ↦ q.kept i j y spelled ] }

pub given : {C : Type 0} {P : Part} → Keeps P → Keeps (Given C P)
given {C} {P} p = record { kept = λ i j h spelled. p.kept i j h.1 spelled }

pub may : {m : Terminal} → Keeps (May m)
may {m} = symbol either nothing

pub maybe : {A : Type 0} {P : A → Part} → ((x : A) → Keeps (P x)) → (o : Option A) → Keeps (Maybe P o)
maybe p None = nothing
maybe p (Some x) = p x

pub when : {P : Part} (b : Bool) → Keeps P → Keeps (When b P)
when true p = p
when false p = nothing

pub each : {A : Type 0} {P : A → Part} → ((x : A) → Keeps (P x)) → (xs : List A) → Keeps (Each P xs)
each p [] = nothing
each p (x ∷ xs) = p x then each p xs

pub each_of_some : {A : Type 0} {P : A → Part} → ((x : A) → Keeps (P x)) → (xs : List A) → Keeps (EachOfSome P xs)
each_of_some p [] = never
each_of_some p (x ∷ xs) = p x then each p xs

pub separated : {A : Type 0} {B : Part} {P : A → Part} → Keeps B → ((x : A) → Keeps (P x)) → (xs : List A) → Keeps (Separated B P xs)
separated b p [] = never
separated b p (x ∷ xs) = p x then each (λ y. b then p y) xs

pub separated_or_none : {A : Type 0} {B : Part} {P : A → Part} → Keeps B → ((x : A) → Keeps (P x)) → (xs : List A) → Keeps (SeparatedOrNone B P xs)
separated_or_none b p [] = nothing
separated_or_none b p (x ∷ xs) = separated b p (x ∷ xs)

-- ---- types

one_kept : (k : Kind) → Keeps (IsOne k)
one_kept k = symbol either symbol either (symbol then symbol then symbol)

words_kept : (k : Kind) → Keeps (AreWords k)
words_kept kind.U32 = symbol then symbol
words_kept kind.U16 = symbol then symbol then may
words_kept kind.U64 = symbol then symbol then may then may
words_kept kind.I16 = symbol then symbol
words_kept kind.I64 = symbol then may then may
words_kept _ = never

pub type_kept : (k : Kind) → Keeps (IsType k)
type_kept k = one_kept k either words_kept k

-- ---- expressions

mutual
  pub expression_kept : (n : ℕ) (e : ExpressionTree) → Keeps (IsExpression n e)
  expression_kept n (literal k value) = symbol
  expression_kept n (boolean true) = symbol
  expression_kept n (boolean false) = symbol
  expression_kept n (variable name) = symbol
  expression_kept n (element name e) = symbol then symbol then expression_kept expression_level e then symbol
  expression_kept n (call stream method es) = symbol then symbol then symbol then symbol then arguments_kept es then symbol
  expression_kept n nullptr = given symbol
  expression_kept n (construct k e) = one_kept k then symbol then expression_kept expression_level e then symbol
  expression_kept n (static_cast k e) = symbol then symbol then type_kept k then symbol then symbol then expression_kept expression_level e then symbol
  expression_kept n (cast k e) = symbol then type_kept k then symbol then expression_kept 0 e
  expression_kept n (parenthesized e) = symbol then expression_kept expression_level e then symbol
  expression_kept n (prefix o at e) = symbol then expression_kept 0 e
  expression_kept n (binary o at a b) = given (expression_kept _ a then symbol then expression_kept _ b)
  expression_kept n (conditional at c a b) = given (expression_kept _ c then symbol then expression_kept _ a then symbol then expression_kept _ b)

  arguments_kept : (es : Expressions) → Keeps (AreArguments es)
  arguments_kept none = nothing
  arguments_kept (one e es) = expression_kept argument_level e then more_kept es

  more_kept : (es : Expressions) → Keeps (AreMoreArguments es)
  more_kept none = nothing
  more_kept (one e es) = symbol then expression_kept argument_level e then more_kept es

-- ---- actions and declarations

place_kept : (p : PlaceTree) → Keeps (IsPlace p)
place_kept (variable_place name) = symbol
place_kept (element_place name e) = symbol then symbol then expression_kept expression_level e then symbol

action_kept : (a : ActionTree) → Keeps (IsAction a)
action_kept (call_action stream method es) = symbol then symbol then symbol then symbol then separated_or_none symbol (expression_kept argument_level) es then symbol
action_kept (write stream es) = symbol then each_of_some (λ e. symbol then expression_kept sum_level e) es
action_kept (read stream places) = symbol then each_of_some (λ p. symbol then place_kept p) places
action_kept (assign target o at e) = place_kept target then symbol then expression_kept expression_level e
action_kept (postfix target step at) = place_kept target then symbol
action_kept (prefix_step step at target) = symbol then place_kept target

form_kept : (form : CountForm) → Keeps (IsCountForm form)
form_kept (literal_count k value) = symbol
form_kept (name_count name) = symbol
form_kept (parenthesized_count e) = symbol then expression_kept expression_level e then symbol

pub count_kept : (count : CountTree) → Keeps (IsCount count)
count_kept count = record { kept = λ i j h spelled. (form_kept count.form).kept i j h.1 spelled }

declarator_kept : (d : DeclaratorTree) → Keeps (IsDeclarator d)
declarator_kept (plain name) = symbol
declarator_kept (initialized name e) = symbol then symbol then expression_kept expression_level e
declarator_kept (array name count) = symbol then symbol then count_kept count then symbol

declaration_kept : (d : DeclarationTree) → Keeps (IsDeclaration d)
declaration_kept d = when d.constant symbol then type_kept d.kind then separated symbol declarator_kept d.names

-- ---- attributes

attribute_argument_kept : (a : AttributeArgument) → Keeps (IsAttributeArgument a)
attribute_argument_kept (attribute_argument.Literal k value) = symbol
attribute_argument_kept attribute_argument.Str = symbol
attribute_argument_kept (attribute_argument.Name name) = symbol

attribute_arguments_kept : (o : Option (List AttributeArgument)) → Keeps (AreAttributeArguments o)
attribute_arguments_kept None = nothing
attribute_arguments_kept (Some arguments) = symbol then separated_or_none symbol attribute_argument_kept arguments then symbol

pub attribute_kept : (a : AttributeTree) → Keeps (IsAttribute a)
attribute_kept a = symbol then symbol then symbol then symbol then symbol then attribute_arguments_kept a.arguments then symbol then symbol

-- ---- statements

start_kept : (start : StartTree) → Keeps (IsStart start)
start_kept no_start = nothing
start_kept (declare_start d) = declaration_kept d
start_kept (act_start a) = action_kept a

head_kept : (head : HeadTree) → Keeps (IsHead head)
head_kept head = start_kept head.start then symbol then maybe (expression_kept expression_level) head.test then symbol then maybe action_kept head.step

mutual
  statement_kept : (s : StatementTree) → Keeps (IsStatement s)
  statement_kept (attributed attributes s) = given (each_of_some attribute_kept attributes then statement_kept s)
  statement_kept empty = symbol
  statement_kept (block ss) = symbol then statements_kept ss then symbol
  statement_kept (declare d) = declaration_kept d then symbol
  statement_kept (act a) = action_kept a then symbol
  statement_kept (if_only c s) = symbol then symbol then expression_kept expression_level c then symbol then statement_kept s
  statement_kept (if_else c s t) = given (symbol then symbol then expression_kept expression_level c then symbol then statement_kept s then symbol then statement_kept t)
  statement_kept (while c s) = symbol then symbol then expression_kept expression_level c then symbol then statement_kept s
  statement_kept (for head s) = symbol then symbol then head_kept head then symbol then statement_kept s
  statement_kept (while_not_eot stream s) = symbol then symbol then symbol then symbol then statement_kept s
  statement_kept (break at) = symbol then symbol
  statement_kept (continue at) = symbol then symbol

  statements_kept : (ss : Statements) → Keeps (AreStatements ss)
  statements_kept no_statement = nothing
  statements_kept (statement_then s ss) = statement_kept s then statements_kept ss

-- ---- tasks and files

pub parameter_kept : (p : Parameter) → Keeps (IsParameter p)
parameter_kept (parameter.InputStream k name) = symbol then symbol then symbol then symbol then type_kept k then symbol then symbol then symbol
parameter_kept (parameter.OutputStream k name) = symbol then symbol then symbol then symbol then type_kept k then symbol then symbol then symbol
parameter_kept (parameter.Memory is_const k name) = symbol then symbol then symbol then symbol then when is_const symbol then type_kept k then symbol then symbol
parameter_kept (parameter.Scalar is_const k name) = when is_const symbol then type_kept k then symbol

pub labelled_kept : Keeps MayBeLabelled
labelled_kept = (symbol then symbol then symbol) either nothing

pub stream_kept : (s : StreamTree) → Keeps (IsStream s)
stream_kept s = symbol then symbol then symbol then symbol then type_kept s.kind then maybe (λ count. symbol then count_kept count) s.depth then symbol then separated symbol (λ name. symbol then labelled_kept) s.names then symbol

argument_kept : (a : ArgumentTree) → Keeps (IsArgument a)
argument_kept a = record { kept = λ i j h spelled. (expression_kept expression_level a.value).kept i j h.1 spelled }

mode_kept : (mode : Name) → Keeps (IsMode mode)
mode_kept mode = symbol then symbol then symbol then symbol then symbol

invocation_kept : (i : InvocationTree) → Keeps (IsInvocation i)
invocation_kept i = symbol then symbol then maybe mode_kept i.mode then symbol then symbol then each (λ a. symbol then argument_kept a) i.arguments then symbol

pub body_kept : (b : BodyTree) → Keeps (IsBody b)
body_kept (leaf ss) = statements_kept ss
body_kept (upper streams invocations) = each stream_kept streams then symbol then symbol then symbol then symbol then symbol then each_of_some invocation_kept invocations then symbol

task_kept : (t : TaskTree) → Keeps (IsTask t)
task_kept t = each attribute_kept t.attributes then symbol then symbol then symbol then separated_or_none symbol parameter_kept t.parameters then symbol then symbol then body_kept t.body then symbol

pub item_kept : (item : ItemTree) → Keeps (IsItem item)
item_kept (constant attributes k name e) = each attribute_kept attributes then (symbol either symbol) then type_kept k then symbol then symbol then expression_kept expression_level e then symbol
item_kept (task t) = task_kept t
