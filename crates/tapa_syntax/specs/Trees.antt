-- Trees without where they lie in memory.
use Rattle.std.specs.Prelude.{ℕ, Bool, List, [], ◌∷◌, map, Option, Some, None}
use Rattle.tapa_base.specs.declared.kind.Kind.{Kind}
use Rattle.tapa_base.specs.declared.text.Place.{Place}
use Rattle.tapa_syntax.specs.declared.tree.Name.{Name}
use Rattle.tapa_syntax.specs.declared.tree.PrefixOperator.{PrefixOperator}
use Rattle.tapa_syntax.specs.declared.tree.BinaryOperator.{BinaryOperator}
use Rattle.tapa_syntax.specs.declared.tree.StepOperator.{StepOperator}
use Rattle.tapa_syntax.specs.declared.tree.AssignmentOperator.{AssignmentOperator}
use Rattle.tapa_syntax.specs.declared.tree.Expression.{Expression, Row_of-Expression, end_of-Expression, more_of-Expression}
use Rattle.tapa_syntax.specs.declared.tree.Expression.TheVariants.{Literal, Boolean, Variable, Element', Call', Nullptr, Construct', StaticCast', Cast', Parenthesized', Prefix', Binary', Conditional'}
use Rattle.tapa_syntax.specs.declared.tree.PlaceExpression.{PlaceExpression}
use Rattle.tapa_syntax.specs.declared.tree.PlaceExpression.TheVariants as place_expression
use Rattle.tapa_syntax.specs.declared.tree.Action.{Action}
use Rattle.tapa_syntax.specs.declared.tree.Action.TheVariants as action
use Rattle.tapa_syntax.specs.declared.tree.CountValue.{CountValue}
use Rattle.tapa_syntax.specs.declared.tree.CountValue.TheVariants as count_value
use Rattle.tapa_syntax.specs.declared.tree.Count.{Count}
use Rattle.tapa_syntax.specs.declared.tree.Declarator.{Declarator}
use Rattle.tapa_syntax.specs.declared.tree.Declarator.TheVariants as declarator
use Rattle.tapa_syntax.specs.declared.tree.Declaration.{Declaration}
use Rattle.tapa_syntax.specs.declared.tree.ForStart.{ForStart}
use Rattle.tapa_syntax.specs.declared.tree.ForStart.TheVariants as for_start
use Rattle.tapa_syntax.specs.declared.tree.ForHead.{ForHead}
use Rattle.tapa_syntax.specs.declared.tree.AttributeArgument.{AttributeArgument}
use Rattle.tapa_syntax.specs.declared.tree.AttributeArguments.{AttributeArguments}
use Rattle.tapa_syntax.specs.declared.tree.AttributeArguments.TheVariants as attribute_arguments
use Rattle.tapa_syntax.specs.declared.tree.Attribute.{Attribute}
use Rattle.tapa_syntax.specs.declared.tree.Statement.{Statement, Row_of-Statement, end_of-Statement, more_of-Statement}
use Rattle.tapa_syntax.specs.declared.tree.Statement.TheVariants.{Attributed', Empty, Block', Declare, Act, If', IfElse', While', For', WhileNotEot', Break, Continue}
use Rattle.tapa_syntax.specs.declared.tree.Parameter.{Parameter}
use Rattle.tapa_syntax.specs.declared.tree.StreamDeclaration.{StreamDeclaration}
use Rattle.tapa_syntax.specs.declared.tree.InvocationArgument.{InvocationArgument}
use Rattle.tapa_syntax.specs.declared.tree.Invocation.{Invocation}
use Rattle.tapa_syntax.specs.declared.tree.TaskBody.{TaskBody}
use Rattle.tapa_syntax.specs.declared.tree.TaskBody.TheVariants as task_body
use Rattle.tapa_syntax.specs.declared.tree.TaskDeclaration.{TaskDeclaration}
use Rattle.tapa_syntax.specs.declared.tree.FileItem.{FileItem}
use Rattle.tapa_syntax.specs.declared.tree.FileItem.TheVariants as file_item
use Rattle.tapa_syntax.specs.declared.tree.File.{File}

-- ---- expressions

mutual
  pub data ExpressionTree : Type 0 where
    literal : Kind → ℕ → ExpressionTree
    boolean : Bool → ExpressionTree
    variable : Name → ExpressionTree
    element : Name → ExpressionTree → ExpressionTree
    call : Name → Name → Expressions → ExpressionTree
    nullptr : ExpressionTree
    construct : Kind → ExpressionTree → ExpressionTree
    static_cast : Kind → ExpressionTree → ExpressionTree
    cast : Kind → ExpressionTree → ExpressionTree
    parenthesized : ExpressionTree → ExpressionTree
    prefix : PrefixOperator → Place → ExpressionTree → ExpressionTree
    binary : BinaryOperator → Place → ExpressionTree → ExpressionTree → ExpressionTree
    conditional : Place → ExpressionTree → ExpressionTree → ExpressionTree → ExpressionTree

  pub data Expressions : Type 0 where
    none : Expressions
    one : ExpressionTree → Expressions → Expressions

abbrev mutual
  pub expression : Expression → ExpressionTree
  expression (Literal kind value) = literal kind value
  expression (Boolean value) = boolean value
  expression (Variable name) = variable name
  expression (Element' name p index) = element name (expression index)
  expression (Call' stream method shape row) = call stream method (expressions_in row)
  expression Nullptr = nullptr
  expression (Construct' kind p e) = construct kind (expression e)
  expression (StaticCast' kind p e) = static_cast kind (expression e)
  expression (Cast' kind p e) = cast kind (expression e)
  expression (Parenthesized' p e) = parenthesized (expression e)
  expression (Prefix' o at p e) = prefix o at (expression e)
  expression (Binary' o at p a q b) = binary o at (expression a) (expression b)
  expression (Conditional' at p c q a r b) = conditional at (expression c) (expression a) (expression b)

  pub expressions_in : {m : _} → Row_of-Expression m → Expressions
  expressions_in end_of-Expression = none
  expressions_in (more_of-Expression e row) = one (expression e) (expressions_in row)

-- the trees of a list, in a row
abbrev pub expressions : List ExpressionTree → Expressions
expressions [] = none
expressions (e ∷ es) = one e (expressions es)

-- ---- actions and declarations

pub data PlaceTree : Type 0 where
  variable_place : Name → PlaceTree
  element_place : Name → ExpressionTree → PlaceTree

abbrev pub place_expression_of : PlaceExpression → PlaceTree
place_expression_of (place_expression.Variable name) = variable_place name
place_expression_of (place_expression.Element name e) = element_place name (expression e)

pub data ActionTree : Type 0 where
  call_action : Name → Name → List ExpressionTree → ActionTree
  write : Name → List ExpressionTree → ActionTree
  read : Name → List PlaceTree → ActionTree
  assign : PlaceTree → AssignmentOperator → Place → ExpressionTree → ActionTree
  postfix : PlaceTree → StepOperator → Place → ActionTree
  prefix_step : StepOperator → Place → PlaceTree → ActionTree

abbrev pub action_of : Action → ActionTree
action_of (action.Call stream method arguments) = call_action stream method (map expression arguments.items)
action_of (action.Write stream values) = write stream (map expression values.items)
action_of (action.Read stream places) = read stream (map place_expression_of places.items)
action_of (action.Assign target o at value) = assign (place_expression_of target) o at (expression value)
action_of (action.Postfix target step at) = postfix (place_expression_of target) step at
action_of (action.Prefix step at target) = prefix_step step at (place_expression_of target)

pub data CountForm : Type 0 where
  literal_count : Kind → ℕ → CountForm
  name_count : Name → CountForm
  parenthesized_count : ExpressionTree → CountForm

pub record CountTree : Type 0 where
  pub place : Place
  pub form : CountForm

abbrev pub count_form_of : CountValue → CountForm
count_form_of (count_value.Literal kind value) = literal_count kind value
count_form_of (count_value.Name name) = name_count name
count_form_of (count_value.Parenthesized e) = parenthesized_count (expression e)

abbrev pub count_of : Count → CountTree
count_of count = record { place = count.place; form = count_form_of count.value }

pub data DeclaratorTree : Type 0 where
  plain : Name → DeclaratorTree
  initialized : Name → ExpressionTree → DeclaratorTree
  array : Name → CountTree → DeclaratorTree

abbrev pub declarator_of : Declarator → DeclaratorTree
declarator_of (declarator.Plain name) = plain name
declarator_of (declarator.Initialized name e) = initialized name (expression e)
declarator_of (declarator.Array name count) = array name (count_of count)

pub record DeclarationTree : Type 0 where
  pub constant : Bool
  pub kind : Kind
  pub names : List DeclaratorTree

abbrev pub declaration_of : Declaration → DeclarationTree
declaration_of d = record { constant = d.constant; kind = d.kind; names = map declarator_of d.names.items }

-- ---- statements

pub record AttributeTree : Type 0 where
  pub name : Name
  pub arguments : Option (List AttributeArgument)

abbrev pub attribute_arguments_of : AttributeArguments → Option (List AttributeArgument)
attribute_arguments_of attribute_arguments.Absent = None
attribute_arguments_of (attribute_arguments.Listed arguments) = Some arguments.items

abbrev pub attribute_of : Attribute → AttributeTree
attribute_of a = record { name = a.name; arguments = attribute_arguments_of a.arguments }

pub data StartTree : Type 0 where
  no_start : StartTree
  declare_start : DeclarationTree → StartTree
  act_start : ActionTree → StartTree

abbrev pub start_of : ForStart → StartTree
start_of for_start.Nothing = no_start
start_of (for_start.Declare d) = declare_start (declaration_of d)
start_of (for_start.Act a) = act_start (action_of a)

pub record HeadTree : Type 0 where
  pub start : StartTree
  pub test : Option ExpressionTree
  pub step : Option ActionTree

abbrev pub option_of : {A B : Type 0} → (A → B) → Option A → Option B
option_of f None = None
option_of f (Some x) = Some (f x)

abbrev pub head_of : ForHead → HeadTree
head_of head = record { start = start_of head.start; test = option_of expression head.test; step = option_of action_of head.step }

mutual
  pub data StatementTree : Type 0 where
    attributed : List AttributeTree → StatementTree → StatementTree
    empty : StatementTree
    block : Statements → StatementTree
    declare : DeclarationTree → StatementTree
    act : ActionTree → StatementTree
    if_only : ExpressionTree → StatementTree → StatementTree
    if_else : ExpressionTree → StatementTree → StatementTree → StatementTree
    while : ExpressionTree → StatementTree → StatementTree
    for : HeadTree → StatementTree → StatementTree
    while_not_eot : Name → StatementTree → StatementTree
    break : Place → StatementTree
    continue : Place → StatementTree

  pub data Statements : Type 0 where
    no_statement : Statements
    statement_then : StatementTree → Statements → Statements

abbrev mutual
  pub statement : Statement → StatementTree
  statement (Attributed' attributes p s) = attributed (map attribute_of attributes.items) (statement s)
  statement Empty = empty
  statement (Block' shape row) = block (statements_in row)
  statement (Declare d) = declare (declaration_of d)
  statement (Act a) = act (action_of a)
  statement (If' c p s) = if_only (expression c) (statement s)
  statement (IfElse' c p s q t) = if_else (expression c) (statement s) (statement t)
  statement (While' c p s) = while (expression c) (statement s)
  statement (For' head p s) = for (head_of head.value) (statement s)
  statement (WhileNotEot' stream p s) = while_not_eot stream (statement s)
  statement (Break at) = break at
  statement (Continue at) = continue at

  pub statements_in : {m : _} → Row_of-Statement m → Statements
  statements_in end_of-Statement = no_statement
  statements_in (more_of-Statement s row) = statement_then (statement s) (statements_in row)

abbrev pub statements : List StatementTree → Statements
statements [] = no_statement
statements (s ∷ ss) = statement_then s (statements ss)

-- ---- tasks and files

pub record StreamTree : Type 0 where
  pub kind : Kind
  pub depth : Option CountTree
  pub names : List Name

abbrev pub stream_of : StreamDeclaration → StreamTree
stream_of s = record { kind = s.kind; depth = option_of count_of s.depth; names = s.names.items }

pub record ArgumentTree : Type 0 where
  pub place : Place
  pub value : ExpressionTree

abbrev pub argument_of : InvocationArgument → ArgumentTree
argument_of a = record { place = a.place; value = expression a.value }

pub record InvocationTree : Type 0 where
  pub mode : Option Name
  pub task : Name
  pub arguments : List ArgumentTree

abbrev pub invocation_of : Invocation → InvocationTree
invocation_of i = record { mode = i.mode; task = i.task; arguments = map argument_of i.arguments.items }

pub data BodyTree : Type 0 where
  leaf : Statements → BodyTree
  upper : List StreamTree → List InvocationTree → BodyTree

abbrev pub body_of : TaskBody → BodyTree
body_of (task_body.Leaf ss) = leaf (statements (map statement ss.items))
body_of (task_body.Upper streams invocations) = upper (map stream_of streams.items) (map invocation_of invocations.items)

pub record TaskTree : Type 0 where
  pub attributes : List AttributeTree
  pub name : Name
  pub parameters : List Parameter
  pub body : BodyTree
  pub end : Place

abbrev pub task_of : TaskDeclaration → TaskTree
task_of t = record { attributes = map attribute_of t.attributes.items; name = t.name; parameters = t.parameters.items; body = body_of t.body; end = t.end }

pub data ItemTree : Type 0 where
  constant : List AttributeTree → Kind → Name → ExpressionTree → ItemTree
  task : TaskTree → ItemTree

abbrev pub item_of : FileItem → ItemTree
item_of (file_item.Constant attributes kind name value) = constant (map attribute_of attributes.items) kind name (expression value)
item_of (file_item.Task t) = task (task_of t)

abbrev pub file_of : File → List ItemTree
file_of file = map item_of file.items.items
