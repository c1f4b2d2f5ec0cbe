-- Reading from left to right, with one symbol of look-ahead and three before a cast: what may be inside a level of nesting,
-- from a type to a statement.
use Rattle.std.specs.Prelude.{◌||◌, ◌&&◌, if◌then◌else◌, ◌==◌, ◌∷◌, ◌++◌}
use Rattle.std.specs.Prelude.{ℕ, zero, suc, Bool, true, false, not, List, [], length, drop, Option, Some, None, is_some, Ok, Err}
use Rattle.tapa_base.specs.declared.kind.Kind.{Kind}
use Rattle.tapa_base.specs.declared.kind.Kind.TheVariants as kind
use Rattle.tapa_base.specs.declared.text.Place.{Place}
use Rattle.tapa_syntax.specs.declared.terminal.Terminal.{Terminal}
use Rattle.tapa_syntax.specs.declared.terminal.Terminal.TheVariants as terminal
use Rattle.tapa_syntax.specs.declared.tree.Name.{Name}
use Rattle.tapa_syntax.specs.declared.tree.PrefixOperator.{PrefixOperator}
use Rattle.tapa_syntax.specs.declared.tree.BinaryOperator.{BinaryOperator}
use Rattle.tapa_syntax.specs.declared.tree.StepOperator.{StepOperator}
use Rattle.tapa_syntax.specs.declared.tree.AssignmentOperator.{AssignmentOperator}
use Rattle.tapa_syntax.specs.declared.tree.AttributeArgument.{AttributeArgument}
use Rattle.tapa_syntax.specs.declared.tree.AttributeArgument.TheVariants as argument_form
use Rattle.tapa_syntax.specs.Symbols.{Symbol}
use Rattle.tapa_syntax.specs.Trees.{ExpressionTree, literal, boolean, variable, element, call, nullptr, construct, static_cast, cast, parenthesized, prefix, binary}
use Rattle.tapa_syntax.specs.Trees.{conditional, expressions, PlaceTree, variable_place, element_place, ActionTree, call_action, write, read, assign, postfix, prefix_step}
use Rattle.tapa_syntax.specs.Trees.{CountForm, literal_count, name_count, parenthesized_count, CountTree, DeclaratorTree, plain, initialized, array, DeclarationTree}
use Rattle.tapa_syntax.specs.Trees.{AttributeTree, StartTree, no_start, declare_start, act_start, HeadTree, StatementTree, attributed, empty, block, declare, act, if_only}
use Rattle.tapa_syntax.specs.Trees.{if_else, while, for, while_not_eot, break, continue, statements}
use Rattle.tapa_syntax.specs.Grammar.{is_name, sized_kind, word_kind, prefix_operator_of, binary_operator_of, step_operator_of, assignment_operator_of, binds_at, sum_level, or_level}
use Rattle.tapa_syntax.specs.Limits.{most_operators}
use Rattle.tapa_parse_expression.specs.declared.fault.ParseCode.TheVariants.{P1, P2}
use Rattle.tapa_parse_expression.specs.Readers.{◌>>=◌, ◌>>◌}
use Rattle.tapa_parse_expression.specs.Readers.{Reader, pure, refuse, next, sees, skip, here, expect, eat, known, name, plain_name, literal_value, repeat, separated, separated_until}

-- ---- types

unfoldable pub sized : Reader Kind
sized i = (known (sized_kind (next i)) >>= (λ k. skip >> pure k)) i

abbrev pub or_else : {A : Type 0} → Option A → Option A → Option A
or_else None b = b
or_else (Some a) b = Some a

-- a type of one word
abbrev pub one_kind : Terminal → Option Kind
one_kind m = or_else (word_kind m) (sized_kind m)

unfoldable pub one : Reader Kind
one i = if sees terminal.Std i then (skip >> expect terminal.Scope >> sized) i else (known (one_kind (next i)) >>= (λ k. skip >> pure k)) i

abbrev pub unsigned_by : Terminal → Reader Kind
unsigned_by terminal.Short = skip >> eat terminal.Int >> pure kind.U16
unsigned_by terminal.Long = skip >> eat terminal.Long >> eat terminal.Int >> pure kind.U64
unsigned_by _ = eat terminal.Int >> pure kind.U32

unfoldable pub unsigned : Reader Kind
unsigned i = unsigned_by (next i) i

abbrev pub type_by : Terminal → Reader Kind
type_by terminal.Unsigned = skip >> unsigned
type_by terminal.Short = skip >> eat terminal.Int >> pure kind.I16
type_by terminal.Long = skip >> eat terminal.Long >> eat terminal.Int >> pure kind.I64
type_by _ = one

unfoldable pub type_name : Reader Kind
type_name i = type_by (next i) i

-- A parenthesis followed by the words of a type, unless it is a type of one word that is followed by a parenthesis.
unfoldable pub begins_cast : List Symbol → Bool
begins_cast i =
    if sees terminal.Std (drop 1 i) then not (sees terminal.LeftParen (drop 4 i)) else is_some (one_kind (next (drop 1 i))) && not (sees terminal.LeftParen (drop 2 i))

-- ---- levels of nesting

-- a reader of an expression, given how many operators it may have; its result says how many are left
abbrev pub Counting : Type 0 → Type 0
Counting A = ℕ → Reader (A × ℕ)

-- the readers of one level
pub record Readers : Type 0 where
  pub unary : Counting ExpressionTree
  pub expression : Counting ExpressionTree
  pub place : Reader PlaceTree
  pub action : Reader ActionTree
  pub declaration : Reader DeclarationTree
  -- a statement whose level is open
  pub inside : Reader StatementTree

-- the next symbol opens a level, if one more may be opened
abbrev pub enter : Option Readers → Reader Readers
enter None = refuse P2
enter (Some below) = pure below

-- this terminal opens a level
unfoldable pub open_level : Terminal → Option Readers → Reader Readers
open_level m inner i = if sees m i then (do below ← enter inner; skip; pure below) i else Err (P1, i)

-- one more operator
unfoldable pub count : ℕ → Reader ℕ
count zero = refuse P2
count (suc n) = pure n

-- ---- expressions

-- the operator of this level that comes next
abbrev pub at_level : ℕ → Option BinaryOperator → Option BinaryOperator
at_level level None = None
at_level level (Some o) = if binds_at o == level then Some o else None

unfoldable pub operator_of : ℕ → List Symbol → Option BinaryOperator
operator_of level i = at_level level (binary_operator_of (next i))

abbrev pub chain_by : Counting ExpressionTree → (ExpressionTree → Counting ExpressionTree) → ExpressionTree → Option BinaryOperator → Counting ExpressionTree
chain_by operand more left None n = pure (left, n)
chain_by operand more left (Some o) n = do
  n ← count n
  at ← here
  skip
  right ← operand n
  more (binary o at left right.0) right.1

-- the operators of one level and their operands. The number bounds the turns, and each turn takes a symbol.
unfoldable pub chain : Counting ExpressionTree → ℕ → ℕ → ExpressionTree → Counting ExpressionTree
chain operand level zero left n = pure (left, n)
chain operand level (suc turns) left n = λ i. chain_by operand (chain operand level turns) left (operator_of level i) n i

unfoldable pub chain_of : Counting ExpressionTree → ℕ → ExpressionTree → Counting ExpressionTree
chain_of operand level left n = λ i. chain operand level (length i) left n i

unfoldable pub level : Counting ExpressionTree → ℕ → Counting ExpressionTree
level unary zero = unary
level unary (suc l) = λ n. level unary l n >>= (λ a. chain_of (level unary l) l a.0 a.1)

-- what a method is called with, read by the readers below its parenthesis
unfoldable pub argument : Readers → Counting ExpressionTree
argument below n = λ i. if sees terminal.Nullptr i then Ok ((nullptr, n), drop 1 i) else below.expression n i

unfoldable pub more_arguments : Readers → ℕ → List ExpressionTree → Counting (List ExpressionTree)
more_arguments below zero found n = pure (found, n)
more_arguments below (suc turns) found n = λ i. if sees terminal.Comma i then (skip >> argument below n >>= (λ e. more_arguments below turns (found ++ e.0 ∷ []) e.1)) i else Ok ((found, n), i)

unfoldable pub some_arguments : Readers → Counting (List ExpressionTree)
some_arguments below n = do
  e ← argument below n
  (λ i. more_arguments below (length i) (e.0 ∷ []) e.1 i)

unfoldable pub any_arguments : Readers → Counting (List ExpressionTree)
any_arguments below n = λ i. if sees terminal.RightParen i then Ok (([], n), i) else some_arguments below n i

-- inner has the readers one level below, if one more level may be opened
module _ (inner : Option Readers) where
  unfoldable pub in_parentheses : Counting ExpressionTree
  in_parentheses n = do
    below ← open_level terminal.LeftParen inner
    e ← below.expression n
    expect terminal.RightParen
    pure e

  unfoldable pub in_brackets : Counting ExpressionTree
  in_brackets n = do
    below ← open_level terminal.LeftBracket inner
    e ← below.expression n
    expect terminal.RightBracket
    pure e

  unfoldable pub arguments : Counting (List ExpressionTree)
  arguments n = do
    below ← open_level terminal.LeftParen inner
    es ← any_arguments below n
    expect terminal.RightParen
    pure es

  abbrev pub named_by : Terminal → Name → Counting ExpressionTree
  named_by terminal.Dot stream n = do
    skip
    method ← plain_name
    es ← arguments n
    pure (call stream method (expressions es.0), es.1)
  named_by terminal.LeftBracket x n = do
    e ← in_brackets n
    pure (element x e.0, e.1)
  named_by _ x n = pure (variable x, n)

  -- what begins with a name
  unfoldable pub named : Counting ExpressionTree
  named n = do
    x ← name
    (λ i. named_by (next i) x n i)

  unfoldable pub constructed : Counting ExpressionTree
  constructed n = do
    k ← one
    e ← in_parentheses n
    pure (construct k e.0, e.1)

  unfoldable pub statically_cast : Counting ExpressionTree
  statically_cast n = do
    skip
    expect terminal.Less
    k ← type_name
    expect terminal.Greater
    e ← in_parentheses n
    pure (static_cast k e.0, e.1)

  abbrev pub primary_by : Terminal → Counting ExpressionTree
  primary_by terminal.Literal n = do
    v ← literal_value
    pure (literal v.0 v.1, n)
  primary_by terminal.True n = skip >> pure (boolean true, n)
  primary_by terminal.False n = skip >> pure (boolean false, n)
  primary_by terminal.StaticCast n = statically_cast n
  primary_by _ n = constructed n

  unfoldable pub primary : Counting ExpressionTree
  primary n = λ i. if is_name (next i) then named n i else primary_by (next i) n i

  unfoldable pub parenthesis : Counting ExpressionTree
  parenthesis n = do
    e ← in_parentheses n
    pure (parenthesized e.0, e.1)

  unfoldable pub converted : Counting ExpressionTree
  converted n = do
    below ← open_level terminal.LeftParen inner
    k ← type_name
    expect terminal.RightParen
    e ← below.unary n
    pure (cast k e.0, e.1)

  unfoldable pub prefixed : PrefixOperator → Counting ExpressionTree
  prefixed o n = do
    n ← count n
    below ← enter inner
    at ← here
    skip
    e ← below.unary n
    pure (prefix o at e.0, e.1)

  abbrev pub unary_by : Option PrefixOperator → Counting ExpressionTree
  unary_by (Some o) n = prefixed o n
  unary_by None n = λ i. if sees terminal.LeftParen i then (if begins_cast i then converted n i else parenthesis n i) else primary n i

  unfoldable pub unary_with : Counting ExpressionTree
  unary_with n = λ i. unary_by (prefix_operator_of (next i)) n i

  unfoldable pub arms : ExpressionTree → Counting ExpressionTree
  arms c n = do
    n ← count n
    below ← enter inner
    at ← here
    skip
    a ← below.expression n
    expect terminal.Colon
    b ← below.expression a.1
    pure (conditional at c a.0 b.0, b.1)

  unfoldable pub expression_with : Counting ExpressionTree
  expression_with n = do
    c ← level unary_with or_level n
    (λ i. if sees terminal.Question i then arms c.0 c.1 i else Ok (c, i))

-- ---- actions and declarations; limit is how many operators an expression may have that is part of no other

-- an expression with a count of its own
abbrev pub whole : Counting ExpressionTree → ℕ → Reader ExpressionTree
whole counting limit = counting limit >>= (λ e. pure e.0)

module _ (limit : ℕ) (inner : Option Readers) where
  abbrev pub whole_expression : Reader ExpressionTree
  whole_expression = whole (expression_with inner) limit

  abbrev pub sum : Reader ExpressionTree
  sum = whole (level (unary_with inner) sum_level) limit

  abbrev pub condition : Reader ExpressionTree
  condition = whole (in_parentheses inner) limit

  abbrev pub index : Reader ExpressionTree
  index = whole (in_brackets inner) limit

  unfoldable pub place_from : Name → Reader PlaceTree
  place_from x = λ i. if sees terminal.LeftBracket i then (index >>= (λ e. pure (element_place x e))) i else Ok (variable_place x, i)

  unfoldable pub place_with : Reader PlaceTree
  place_with = name >>= place_from

  unfoldable pub call_arguments : Reader (List ExpressionTree)
  call_arguments = do
    below ← open_level terminal.LeftParen inner
    es ← separated_until terminal.RightParen terminal.Comma (whole (argument below) limit)
    expect terminal.RightParen
    pure es

  abbrev pub written : Reader (List ExpressionTree)
  written = repeat (sees terminal.ShiftLeft) (skip >> sum)

  abbrev pub targets : Reader (List PlaceTree)
  targets = repeat (sees terminal.ShiftRight) (skip >> place_with)

  abbrev pub assigned_by : Option StepOperator → Option AssignmentOperator → PlaceTree → Reader ActionTree
  assigned_by (Some step) o target = do
    at ← here
    skip
    pure (postfix target step at)
  assigned_by None (Some o) target = do
    at ← here
    skip
    e ← whole_expression
    pure (assign target o at e)
  assigned_by None None target = refuse P1

  unfoldable pub assigned : PlaceTree → Reader ActionTree
  assigned target = λ i. assigned_by (step_operator_of (next i)) (assignment_operator_of (next i)) target i

  abbrev pub acted_by : Terminal → Name → Reader ActionTree
  acted_by terminal.Dot stream = do
    skip
    method ← plain_name
    es ← call_arguments
    pure (call_action stream method es)
  acted_by terminal.ShiftLeft stream = do
    es ← written
    pure (write stream es)
  acted_by terminal.ShiftRight stream = do
    places ← targets
    pure (read stream places)
  acted_by _ x = place_from x >>= assigned

  -- an action that begins with this name
  unfoldable pub acted : Name → Reader ActionTree
  acted x = λ i. acted_by (next i) x i

  unfoldable pub stepped : StepOperator → Reader ActionTree
  stepped step = do
    below ← enter inner
    at ← here
    skip
    target ← below.place
    pure (prefix_step step at target)

  unfoldable pub action_with : Reader ActionTree
  action_with = λ i. if is_name (next i) then (name >>= acted) i else (known (step_operator_of (next i)) >>= stepped) i

  abbrev pub form_by : Terminal → Reader CountForm
  form_by terminal.Literal = do
    v ← literal_value
    pure (literal_count v.0 v.1)
  form_by terminal.LeftParen = do
    e ← condition
    pure (parenthesized_count e)
  form_by _ = do
    x ← name
    pure (name_count x)

  abbrev pub form : Reader CountForm
  form = λ i. form_by (next i) i

  -- a depth or a number of cells
  unfoldable pub counted : Reader CountTree
  counted = do
    at ← here
    form ← form
    pure (record { place = at; form = form })

  abbrev pub declarator_by : Terminal → Name → Reader DeclaratorTree
  declarator_by terminal.Assign x = do
    skip
    e ← whole_expression
    pure (initialized x e)
  declarator_by terminal.LeftBracket x = do
    skip
    count ← counted
    expect terminal.RightBracket
    pure (array x count)
  declarator_by _ x = pure (plain x)

  unfoldable pub declarator : Reader DeclaratorTree
  declarator = do
    x ← name
    (λ i. declarator_by (next i) x i)

  unfoldable pub declaration_with : Reader DeclarationTree
  declaration_with = do
    is_const ← eat terminal.Const
    k ← type_name
    names ← separated terminal.Comma declarator
    pure (record { constant = is_const; kind = k; names = names })

-- ---- attributes

abbrev pub attribute_argument_by : Terminal → Reader AttributeArgument
attribute_argument_by terminal.Literal = do
  v ← literal_value
  pure (argument_form.Literal v.0 v.1)
attribute_argument_by terminal.Str = skip >> pure argument_form.Str
attribute_argument_by _ = do
  x ← name
  pure (argument_form.Name x)

unfoldable pub attribute_argument : Reader AttributeArgument
attribute_argument = λ i. attribute_argument_by (next i) i

module _ (inner : Option Readers) where
  unfoldable pub listed_arguments : Reader (List AttributeArgument)
  listed_arguments = do
    below ← open_level terminal.LeftParen inner
    arguments ← separated_until terminal.RightParen terminal.Comma attribute_argument
    expect terminal.RightParen
    pure arguments

  unfoldable pub attribute_arguments : Reader (Option (List AttributeArgument))
  attribute_arguments = λ i. if sees terminal.LeftParen i then (listed_arguments >>= (λ a. pure (Some a))) i else Ok (None, i)

  unfoldable pub attribute : Reader AttributeTree
  attribute = do
    expect terminal.LeftBracket
    expect terminal.LeftBracket
    expect terminal.Tapa
    expect terminal.Scope
    x ← plain_name
    arguments ← attribute_arguments
    expect terminal.RightBracket
    expect terminal.RightBracket
    pure (record { name = x; arguments = arguments })

  abbrev pub attributes : Reader (List AttributeTree)
  attributes = repeat (sees terminal.LeftBracket) attribute

-- ---- statements

abbrev pub begins_action : Terminal → Bool
begins_action m = is_name m || is_some (step_operator_of m)

abbrev pub begins_other : Terminal → Bool
begins_other terminal.LeftBracket = true
begins_other terminal.Semicolon = true
begins_other terminal.LeftBrace = true
begins_other terminal.If = true
begins_other terminal.While = true
begins_other terminal.For = true
begins_other terminal.WhileNotEot = true
begins_other terminal.Break = true
begins_other terminal.Continue = true
begins_other terminal.Const = true
begins_other terminal.Std = true
begins_other _ = false

abbrev pub begins_statement : Terminal → Bool
begins_statement m = begins_other m || begins_action m || is_some (one_kind m)

unfoldable pub start : Readers → Reader StartTree
start below = λ i. if sees terminal.Semicolon i then Ok (no_start, i) else (if begins_action (next i) then (do a ← below.action; pure (act_start a)) i else
    (do d ← below.declaration; pure (declare_start d)) i)

unfoldable pub loop_test : ℕ → Readers → Reader (Option ExpressionTree)
loop_test limit below = λ i. if sees terminal.Semicolon i then Ok (None, i) else (do e ← whole below.expression limit; pure (Some e)) i

unfoldable pub step : Readers → Reader (Option ActionTree)
step below = λ i. if sees terminal.RightParen i then Ok (None, i) else (do a ← below.action; pure (Some a)) i

-- a keyword and its semicolon
unfoldable pub jump : Reader Place
jump = do
  at ← here
  skip
  expect terminal.Semicolon
  pure at

module _ (limit : ℕ) (inner : Option Readers) where
  unfoldable pub statement_with : Reader StatementTree
  statement_with = λ i. if begins_statement (next i) then (enter inner >>= (λ below. below.inside)) i else Err (P1, i)

  abbrev pub statements_with : Reader (List StatementTree)
  statements_with = repeat (λ i. not (sees terminal.RightBrace i)) statement_with

  unfoldable pub simple : Reader StatementTree
  simple = λ i. if begins_action (next i) then (do a ← action_with limit inner; expect terminal.Semicolon; pure (act a)) i else
      (do d ← declaration_with limit inner; expect terminal.Semicolon; pure (declare d)) i

  unfoldable pub braces : Reader StatementTree
  braces = do
    skip
    ss ← statements_with
    expect terminal.RightBrace
    pure (block (statements ss))

  -- what may follow the first side of an if
  unfoldable pub otherwise : ExpressionTree → StatementTree → Reader StatementTree
  otherwise c s = λ i. if sees terminal.Else i then (do skip; t ← statement_with; pure (if_else c s t)) i else Ok (if_only c s, i)

  unfoldable pub choice : Reader StatementTree
  choice = do
    skip
    c ← condition limit inner
    s ← statement_with
    otherwise c s

  unfoldable pub repetition : Reader StatementTree
  repetition = do
    skip
    c ← condition limit inner
    s ← statement_with
    pure (while c s)

  unfoldable pub head : Reader HeadTree
  head = do
    below ← open_level terminal.LeftParen inner
    start ← start below
    expect terminal.Semicolon
    test ← loop_test limit below
    expect terminal.Semicolon
    step ← step below
    expect terminal.RightParen
    pure (record { start = start; test = test; step = step })

  unfoldable pub counting_loop : Reader StatementTree
  counting_loop = do
    skip
    head ← head
    s ← statement_with
    pure (for head s)

  unfoldable pub transaction_loop : Reader StatementTree
  transaction_loop = do
    skip
    below ← open_level terminal.LeftParen inner
    stream ← name
    expect terminal.RightParen
    s ← statement_with
    pure (while_not_eot stream s)

  abbrev pub bare_by : Terminal → Reader StatementTree
  bare_by terminal.Semicolon = skip >> pure empty
  bare_by terminal.LeftBrace = braces
  bare_by terminal.If = choice
  bare_by terminal.While = repetition
  bare_by terminal.For = counting_loop
  bare_by terminal.WhileNotEot = transaction_loop
  bare_by terminal.Break = jump >>= (λ at. pure (break at))
  bare_by terminal.Continue = jump >>= (λ at. pure (continue at))
  bare_by _ = simple

  -- a statement without attributes
  unfoldable pub bare : Reader StatementTree
  bare = λ i. bare_by (next i) i

  unfoldable pub inside_with : Reader StatementTree
  inside_with = λ i. if sees terminal.LeftBracket i then (do found ← attributes inner; s ← bare; pure (attributed found s)) i else bare i

-- ---- all levels

abbrev pub readers : ℕ → Option Readers → Readers
readers limit inner = record {
  unary = unary_with inner;
  expression = expression_with inner;
  place = place_with limit inner;
  action = action_with limit inner;
  declaration = declaration_with limit inner;
  inside = inside_with limit inner;
}

-- the readers one level below, where this number of levels may be opened; none at 0
unfoldable pub below_levels : ℕ → ℕ → Option Readers
below_levels limit zero = None
below_levels limit (suc levels) = Some (readers limit (below_levels limit levels))

-- within the limits
abbrev pub below : ℕ → Option Readers
below levels = below_levels most_operators levels

abbrev pub at : ℕ → Readers
at levels = readers most_operators (below levels)
