-- How deep a tree nests, and how many operators its longest expression has.
use Rattle.std.specs.Prelude.{ℕ, suc, max, ◌+◌, ◌≤◌, List, [], ◌∷◌, Option, Some, None}
use Rattle.tapa_syntax.specs.Trees.{ExpressionTree, literal, boolean, variable, element, call, nullptr, construct, static_cast, cast, parenthesized, prefix, binary}
use Rattle.tapa_syntax.specs.Trees.{conditional, Expressions, none, one, PlaceTree, variable_place, element_place, ActionTree, call_action, write, read, assign, postfix}
use Rattle.tapa_syntax.specs.Trees.{prefix_step, CountForm, literal_count, name_count, parenthesized_count, DeclaratorTree, plain, initialized, array, DeclarationTree}
use Rattle.tapa_syntax.specs.Trees.{AttributeTree, StartTree, no_start, declare_start, act_start, HeadTree, StatementTree, attributed, empty, block, declare, act, if_only}
use Rattle.tapa_syntax.specs.Trees.{if_else, while, for, while_not_eot, break, continue, Statements, no_statement, statement_then, StreamTree, InvocationTree, BodyTree}
use Rattle.tapa_syntax.specs.Trees.{leaf, upper, ItemTree, constant, task}

-- the largest number, and 0 of none
abbrev pub most : {A : Type 0} → (A → ℕ) → List A → ℕ
most f [] = 0
most f (x ∷ xs) = max (f x) (most f xs)

abbrev pub if_there : {A : Type 0} → (A → ℕ) → Option A → ℕ
if_there f None = 0
if_there f (Some x) = f x

-- ---- how many levels are open at most: statements, parentheses, index brackets, arms of conditionals and prefix operators

abbrev mutual
  pub nesting : ExpressionTree → ℕ
  nesting (literal kind value) = 0
  nesting (boolean value) = 0
  nesting (variable name) = 0
  nesting (element name e) = suc (nesting e)
  nesting (call stream method es) = suc (nestings es)
  nesting nullptr = 0
  nesting (construct kind e) = suc (nesting e)
  nesting (static_cast kind e) = suc (nesting e)
  -- the parenthesis of a cast is open over its operand
  nesting (cast kind e) = suc (nesting e)
  nesting (parenthesized e) = suc (nesting e)
  nesting (prefix o at e) = suc (nesting e)
  nesting (binary o at a b) = max (nesting a) (nesting b)
  nesting (conditional at c a b) = max (nesting c) (suc (max (nesting a) (nesting b)))

  pub nestings : Expressions → ℕ
  nestings none = 0
  nestings (one e es) = max (nesting e) (nestings es)

abbrev pub place_nesting : PlaceTree → ℕ
place_nesting (variable_place name) = 0
place_nesting (element_place name e) = suc (nesting e)

abbrev pub action_nesting : ActionTree → ℕ
action_nesting (call_action stream method es) = suc (most nesting es)
action_nesting (write stream es) = most nesting es
action_nesting (read stream places) = most place_nesting places
action_nesting (assign target o at e) = max (place_nesting target) (nesting e)
action_nesting (postfix target step at) = place_nesting target
action_nesting (prefix_step step at target) = suc (place_nesting target)

abbrev pub form_nesting : CountForm → ℕ
form_nesting (literal_count kind value) = 0
form_nesting (name_count name) = 0
form_nesting (parenthesized_count e) = suc (nesting e)

-- the bracket of an array's size is no index bracket
abbrev pub declarator_nesting : DeclaratorTree → ℕ
declarator_nesting (plain name) = 0
declarator_nesting (initialized name e) = nesting e
declarator_nesting (array name count) = form_nesting count.form

abbrev pub declaration_nesting : DeclarationTree → ℕ
declaration_nesting d = most declarator_nesting d.names

abbrev pub attribute_nesting : AttributeTree → ℕ
attribute_nesting a = if_there (λ arguments. 1) a.arguments

abbrev pub start_nesting : StartTree → ℕ
start_nesting no_start = 0
start_nesting (declare_start d) = declaration_nesting d
start_nesting (act_start a) = action_nesting a

abbrev pub head_nesting : HeadTree → ℕ
head_nesting head = max (start_nesting head.start) (max (if_there nesting head.test) (if_there action_nesting head.step))

-- a statement is a level itself, from its first lexeme on, which may be that of an attribute
abbrev mutual
  pub statement_nesting : StatementTree → ℕ
  statement_nesting (attributed attributes s) = max (suc (most attribute_nesting attributes)) (statement_nesting s)
  statement_nesting empty = 1
  statement_nesting (block ss) = suc (statements_nesting ss)
  statement_nesting (declare d) = suc (declaration_nesting d)
  statement_nesting (act a) = suc (action_nesting a)
  statement_nesting (if_only c s) = suc (max (suc (nesting c)) (statement_nesting s))
  statement_nesting (if_else c s t) = suc (max (suc (nesting c)) (max (statement_nesting s) (statement_nesting t)))
  statement_nesting (while c s) = suc (max (suc (nesting c)) (statement_nesting s))
  statement_nesting (for head s) = suc (max (suc (head_nesting head)) (statement_nesting s))
  statement_nesting (while_not_eot stream s) = suc (max 1 (statement_nesting s))
  statement_nesting (break at) = 1
  statement_nesting (continue at) = 1

  pub statements_nesting : Statements → ℕ
  statements_nesting no_statement = 0
  statements_nesting (statement_then s ss) = max (statement_nesting s) (statements_nesting ss)

-- The parentheses of the parameters, of `task()`, of a label and of an attribute of the file are one level, in which none is open.
abbrev pub stream_nesting : StreamTree → ℕ
stream_nesting s = if_there (λ count. form_nesting count.form) s.depth

abbrev pub invocation_nesting : InvocationTree → ℕ
invocation_nesting i = suc (most (λ a. nesting a.value) i.arguments)

abbrev pub body_nesting : BodyTree → ℕ
body_nesting (leaf ss) = statements_nesting ss
body_nesting (upper streams invocations) = max (most stream_nesting streams) (most invocation_nesting invocations)

abbrev pub item_nesting : ItemTree → ℕ
item_nesting (constant attributes kind name e) = nesting e
item_nesting (task t) = max 1 (body_nesting t.body)

-- ---- how many operators an expression has, a conditional being one, and casts none

abbrev mutual
  pub operators : ExpressionTree → ℕ
  operators (literal kind value) = 0
  operators (boolean value) = 0
  operators (variable name) = 0
  operators (element name e) = operators e
  operators (call stream method es) = operators_in es
  operators nullptr = 0
  operators (construct kind e) = operators e
  operators (static_cast kind e) = operators e
  operators (cast kind e) = operators e
  operators (parenthesized e) = operators e
  operators (prefix o at e) = suc (operators e)
  operators (binary o at a b) = suc (operators a + operators b)
  operators (conditional at c a b) = suc (operators c + operators a + operators b)

  pub operators_in : Expressions → ℕ
  operators_in none = 0
  operators_in (one e es) = operators e + operators_in es

-- ---- how many the longest expression has that is part of no other

abbrev pub place_operators : PlaceTree → ℕ
place_operators (variable_place name) = 0
place_operators (element_place name e) = operators e

abbrev pub action_operators : ActionTree → ℕ
action_operators (call_action stream method es) = most operators es
action_operators (write stream es) = most operators es
action_operators (read stream places) = most place_operators places
action_operators (assign target o at e) = max (place_operators target) (operators e)
action_operators (postfix target step at) = place_operators target
action_operators (prefix_step step at target) = place_operators target

abbrev pub form_operators : CountForm → ℕ
form_operators (literal_count kind value) = 0
form_operators (name_count name) = 0
form_operators (parenthesized_count e) = operators e

abbrev pub declarator_operators : DeclaratorTree → ℕ
declarator_operators (plain name) = 0
declarator_operators (initialized name e) = operators e
declarator_operators (array name count) = form_operators count.form

abbrev pub declaration_operators : DeclarationTree → ℕ
declaration_operators d = most declarator_operators d.names

abbrev pub start_operators : StartTree → ℕ
start_operators no_start = 0
start_operators (declare_start d) = declaration_operators d
start_operators (act_start a) = action_operators a

abbrev pub head_operators : HeadTree → ℕ
head_operators head = max (start_operators head.start) (max (if_there operators head.test) (if_there action_operators head.step))

abbrev mutual
  pub statement_operators : StatementTree → ℕ
  statement_operators (attributed attributes s) = statement_operators s
  statement_operators empty = 0
  statement_operators (block ss) = statements_operators ss
  statement_operators (declare d) = declaration_operators d
  statement_operators (act a) = action_operators a
  statement_operators (if_only c s) = max (operators c) (statement_operators s)
  statement_operators (if_else c s t) = max (operators c) (max (statement_operators s) (statement_operators t))
  statement_operators (while c s) = max (operators c) (statement_operators s)
  statement_operators (for head s) = max (head_operators head) (statement_operators s)
  statement_operators (while_not_eot stream s) = statement_operators s
  statement_operators (break at) = 0
  statement_operators (continue at) = 0

  pub statements_operators : Statements → ℕ
  statements_operators no_statement = 0
  statements_operators (statement_then s ss) = max (statement_operators s) (statements_operators ss)

abbrev pub stream_operators : StreamTree → ℕ
stream_operators s = if_there (λ count. form_operators count.form) s.depth

abbrev pub invocation_operators : InvocationTree → ℕ
invocation_operators i = most (λ a. operators a.value) i.arguments

abbrev pub body_operators : BodyTree → ℕ
body_operators (leaf ss) = statements_operators ss
body_operators (upper streams invocations) = max (most stream_operators streams) (most invocation_operators invocations)

abbrev pub item_operators : ItemTree → ℕ
item_operators (constant attributes kind name e) = operators e
item_operators (task t) = body_operators t.body

-- ---- the tree passes no limit

abbrev pub most_levels : ℕ
most_levels = 64

abbrev pub most_operators : ℕ
most_operators = 1000

pub record IsWithinLimits (items : List ItemTree) : Type 0 where
  pub levels : most item_nesting items ≤ most_levels
  pub longest : most item_operators items ≤ most_operators
