-- The grammar of the dialect (TAPA documentation; expressions and statements by ISO C++ [gram], cut down to what the dialect
-- has). Each tree says which symbols spell it, from a position in the list of symbols to a later one.
use Rattle.std.specs.Prelude.{◌≡◌, ◌≤◌, ℕ, suc, Bool, true, false, List, [], ◌∷◌, Option, Some, None}
use Rattle.tapa_base.specs.declared.kind.Kind.{Kind}
use Rattle.tapa_base.specs.declared.kind.Kind.TheVariants as kind
use Rattle.tapa_base.specs.declared.op.Op.TheVariants as op
use Rattle.tapa_base.specs.declared.text.Place.{Place}
use Rattle.tapa_syntax.specs.declared.terminal.Terminal.{Terminal}
use Rattle.tapa_syntax.specs.declared.terminal.Terminal.TheVariants as terminal
use Rattle.tapa_syntax.specs.declared.tree.Name.{Name}
use Rattle.tapa_syntax.specs.declared.tree.PrefixOperator.{PrefixOperator}
use Rattle.tapa_syntax.specs.declared.tree.PrefixOperator.TheVariants as prefix_operator
use Rattle.tapa_syntax.specs.declared.tree.BinaryOperator.{BinaryOperator}
use Rattle.tapa_syntax.specs.declared.tree.BinaryOperator.TheVariants.{LogicalOr, LogicalAnd, Value}
use Rattle.tapa_syntax.specs.declared.tree.StepOperator.{StepOperator}
use Rattle.tapa_syntax.specs.declared.tree.StepOperator.TheVariants as step_operator
use Rattle.tapa_syntax.specs.declared.tree.AssignmentOperator.{AssignmentOperator}
use Rattle.tapa_syntax.specs.declared.tree.AssignmentOperator.TheVariants as assignment_operator
use Rattle.tapa_syntax.specs.declared.tree.AttributeArgument.{AttributeArgument}
use Rattle.tapa_syntax.specs.declared.tree.AttributeArgument.TheVariants as attribute_argument
use Rattle.tapa_syntax.specs.declared.tree.Parameter.{Parameter}
use Rattle.tapa_syntax.specs.declared.tree.Parameter.TheVariants as parameter
use Rattle.tapa_syntax.specs.Symbols.{Symbol}
use Rattle.tapa_base.specs.Spans.{Span, ◌⨾◌, Nothing, Never, ◌∣◌, Is, Given, Maybe, When, Each, EachOfSome, Separated, SeparatedOrNone}
use Rattle.tapa_syntax.specs.Trees.{ExpressionTree, literal, boolean, variable, element, call, nullptr, construct, static_cast, cast, parenthesized, prefix, binary}
use Rattle.tapa_syntax.specs.Trees.{conditional, Expressions, none, one, PlaceTree, variable_place, element_place, ActionTree, call_action, write, read, assign, postfix}
use Rattle.tapa_syntax.specs.Trees.{prefix_step, CountForm, literal_count, name_count, parenthesized_count, CountTree, DeclaratorTree, plain, initialized, array}
use Rattle.tapa_syntax.specs.Trees.{DeclarationTree, AttributeTree, StartTree, no_start, declare_start, act_start, HeadTree, StatementTree, attributed, empty, block}
use Rattle.tapa_syntax.specs.Trees.{declare, act, if_only, if_else, while, for, while_not_eot, break, continue, Statements, no_statement, statement_then, StreamTree}
use Rattle.tapa_syntax.specs.Trees.{ArgumentTree, InvocationTree, BodyTree, leaf, upper, TaskTree, ItemTree, constant, task}

abbrev pub Part : Type 1
Part = Span Symbol

-- ---- single symbols

abbrev pub Takes : Terminal → Part
Takes m = Is (λ x. x.terminal ≡ m)

abbrev pub TakesAt : Terminal → Place → Part
TakesAt m at = Is (λ x. (x.terminal ≡ m) × (x.place ≡ at))

-- the terminal is there or not
abbrev pub May : Terminal → Part
May m = Takes m ∣ Nothing

-- a symbol that means this, by a table of terminals
abbrev pub MeansTree : {A : Type 0} → (Terminal → Option A) → A → Part
MeansTree table a = Is (λ x. table x.terminal ≡ Some a)

abbrev pub MeansAt : {A : Type 0} → (Terminal → Option A) → A → Place → Part
MeansAt table a at = Is (λ x. (table x.terminal ≡ Some a) × (x.place ≡ at))

-- Names that are reserved only after `tapa ::` and `.` are names elsewhere.
abbrev pub is_name : Terminal → Bool
is_name terminal.Name = true
is_name terminal.Istream = true
is_name terminal.Ostream = true
is_name terminal.Stream = true
is_name terminal.Mmap = true
is_name terminal.Task = true
is_name terminal.Invoke = true
is_name _ = false

abbrev pub named : Symbol → Name
named x = record { text = x.text; place = x.place }

abbrev pub IsName : Name → Part
IsName name = Is (λ x. (is_name x.terminal ≡ true) × (named x ≡ name))

-- a name after `tapa ::` or a dot
abbrev pub IsPlainName : Name → Part
IsPlainName name = Is (λ x. (x.terminal ≡ terminal.Name) × (named x ≡ name))

abbrev pub IsLiteral : Kind → ℕ → Part
IsLiteral kind value = Is (λ x. (x.terminal ≡ terminal.Literal) × (x.literal ≡ (kind, value)))

-- the first symbol is at this place of the source
abbrev pub StandsAt : Place → List Symbol → Type 0
StandsAt at [] = ⊥
StandsAt at (x ∷ rest) = x.place ≡ at

-- ---- types (ISO C++ [dcl.type.simple]; the widths are those of the LP64 model)

abbrev pub sized_kind : Terminal → Option Kind
sized_kind terminal.Int8 = Some kind.I8
sized_kind terminal.Uint8 = Some kind.U8
sized_kind terminal.Int16 = Some kind.I16
sized_kind terminal.Uint16 = Some kind.U16
sized_kind terminal.Int32 = Some kind.I32
sized_kind terminal.Uint32 = Some kind.U32
sized_kind terminal.Int64 = Some kind.I64
sized_kind terminal.Uint64 = Some kind.U64
sized_kind _ = None

-- the types of one word that is not sized
abbrev pub word_kind : Terminal → Option Kind
word_kind terminal.Bool = Some kind.Bool
word_kind terminal.Int = Some kind.I32
word_kind terminal.Short = Some kind.I16
word_kind terminal.Long = Some kind.I64
word_kind terminal.Unsigned = Some kind.U32
word_kind terminal.SizeT = Some kind.U64
word_kind _ = None

-- a type of one word, which may be said to be of `std` where it is sized
abbrev pub IsOne : Kind → Part
IsOne k = MeansTree word_kind k ∣ MeansTree sized_kind k ∣ Takes terminal.Std ⨾ Takes terminal.Scope ⨾ MeansTree sized_kind k

-- a type of several words
abbrev pub AreWords : Kind → Part
AreWords kind.U32 = Takes terminal.Unsigned ⨾ Takes terminal.Int
AreWords kind.U16 = Takes terminal.Unsigned ⨾ Takes terminal.Short ⨾ May terminal.Int
AreWords kind.U64 = Takes terminal.Unsigned ⨾ Takes terminal.Long ⨾ May terminal.Long ⨾ May terminal.Int
AreWords kind.I16 = Takes terminal.Short ⨾ Takes terminal.Int
AreWords kind.I64 = Takes terminal.Long ⨾ May terminal.Long ⨾ May terminal.Int
AreWords _ = Never

-- No word of a type may follow a type, so that there is one reading of its words.
abbrev pub IsType : Kind → Part
IsType k = IsOne k ∣ AreWords k

-- ---- operators

abbrev pub prefix_operator_of : Terminal → Option PrefixOperator
prefix_operator_of terminal.Minus = Some prefix_operator.Negate
prefix_operator_of terminal.Plus = Some prefix_operator.Plus
prefix_operator_of terminal.Tilde = Some prefix_operator.Complement
prefix_operator_of terminal.Exclamation = Some prefix_operator.Not
prefix_operator_of _ = None

abbrev pub binary_operator_of : Terminal → Option BinaryOperator
binary_operator_of terminal.Or = Some LogicalOr
binary_operator_of terminal.And = Some LogicalAnd
binary_operator_of terminal.Bar = Some (Value op.Or)
binary_operator_of terminal.Caret = Some (Value op.Xor)
binary_operator_of terminal.Ampersand = Some (Value op.And)
binary_operator_of terminal.Equal = Some (Value op.Eq)
binary_operator_of terminal.NotEqual = Some (Value op.Ne)
binary_operator_of terminal.Less = Some (Value op.Lt)
binary_operator_of terminal.LessEqual = Some (Value op.Le)
binary_operator_of terminal.Greater = Some (Value op.Gt)
binary_operator_of terminal.GreaterEqual = Some (Value op.Ge)
binary_operator_of terminal.ShiftLeft = Some (Value op.Shl)
binary_operator_of terminal.ShiftRight = Some (Value op.Shr)
binary_operator_of terminal.Plus = Some (Value op.Add)
binary_operator_of terminal.Minus = Some (Value op.Sub)
binary_operator_of terminal.Star = Some (Value op.Mul)
binary_operator_of terminal.Slash = Some (Value op.Div)
binary_operator_of terminal.Percent = Some (Value op.Rem)
binary_operator_of _ = None

abbrev pub step_operator_of : Terminal → Option StepOperator
step_operator_of terminal.Increment = Some step_operator.Increment
step_operator_of terminal.Decrement = Some step_operator.Decrement
step_operator_of _ = None

abbrev pub assignment_operator_of : Terminal → Option AssignmentOperator
assignment_operator_of terminal.Assign = Some assignment_operator.Plain
assignment_operator_of terminal.PlusAssign = Some (assignment_operator.Compound op.Add)
assignment_operator_of terminal.MinusAssign = Some (assignment_operator.Compound op.Sub)
assignment_operator_of terminal.StarAssign = Some (assignment_operator.Compound op.Mul)
assignment_operator_of terminal.SlashAssign = Some (assignment_operator.Compound op.Div)
assignment_operator_of terminal.PercentAssign = Some (assignment_operator.Compound op.Rem)
assignment_operator_of terminal.AmpersandAssign = Some (assignment_operator.Compound op.And)
assignment_operator_of terminal.BarAssign = Some (assignment_operator.Compound op.Or)
assignment_operator_of terminal.CaretAssign = Some (assignment_operator.Compound op.Xor)
assignment_operator_of terminal.ShiftLeftAssign = Some (assignment_operator.Compound op.Shl)
assignment_operator_of terminal.ShiftRightAssign = Some (assignment_operator.Compound op.Shr)
assignment_operator_of _ = None

-- ---- expressions by levels: those of level 0 have no binary operator outside parentheses, and level n + 1 has the operators that
-- bind at level n too, all of which group to the left

abbrev pub binds_at : BinaryOperator → ℕ
binds_at (Value op.Mul) = 0
binds_at (Value op.Div) = 0
binds_at (Value op.Rem) = 0
binds_at (Value op.Add) = 1
binds_at (Value op.Sub) = 1
binds_at (Value op.Shl) = 2
binds_at (Value op.Shr) = 2
binds_at (Value op.Lt) = 3
binds_at (Value op.Le) = 3
binds_at (Value op.Gt) = 3
binds_at (Value op.Ge) = 3
binds_at (Value op.Eq) = 4
binds_at (Value op.Ne) = 4
binds_at (Value op.And) = 5
binds_at (Value op.Xor) = 6
binds_at (Value op.Or) = 7
binds_at LogicalAnd = 8
binds_at LogicalOr = 9

-- sums, which a stream is written with
abbrev pub sum_level : ℕ
sum_level = 2

abbrev pub or_level : ℕ
or_level = 10

-- any expression
abbrev pub expression_level : ℕ
expression_level = 11

-- an argument of a method
abbrev pub argument_level : ℕ
argument_level = 12

abbrev mutual
  pub IsExpression : ℕ → ExpressionTree → Part
  IsExpression n (literal kind value) = IsLiteral kind value
  IsExpression n (boolean true) = Takes terminal.True
  IsExpression n (boolean false) = Takes terminal.False
  IsExpression n (variable name) = IsName name
  IsExpression n (element name e) = IsName name ⨾ Takes terminal.LeftBracket ⨾ IsExpression expression_level e ⨾ Takes terminal.RightBracket
  IsExpression n (call stream method es) = IsName stream ⨾ Takes terminal.Dot ⨾ IsPlainName method ⨾ Takes terminal.LeftParen ⨾ AreArguments es ⨾ Takes terminal.RightParen
  IsExpression n nullptr = Given (argument_level ≤ n) (Takes terminal.Nullptr)
  IsExpression n (construct kind e) = IsOne kind ⨾ Takes terminal.LeftParen ⨾ IsExpression expression_level e ⨾ Takes terminal.RightParen
  IsExpression n (static_cast kind e) = Takes terminal.StaticCast ⨾ Takes terminal.Less ⨾ IsType kind ⨾ Takes terminal.Greater
      ⨾ Takes terminal.LeftParen ⨾ IsExpression expression_level e ⨾ Takes terminal.RightParen
  IsExpression n (cast kind e) = Takes terminal.LeftParen ⨾ IsType kind ⨾ Takes terminal.RightParen ⨾ IsExpression 0 e
  IsExpression n (parenthesized e) = Takes terminal.LeftParen ⨾ IsExpression expression_level e ⨾ Takes terminal.RightParen
  IsExpression n (prefix o at e) = MeansAt prefix_operator_of o at ⨾ IsExpression 0 e
  IsExpression n (binary o at a b) = Given (suc (binds_at o) ≤ n) (IsExpression (suc (binds_at o)) a ⨾ MeansAt binary_operator_of o at ⨾ IsExpression (binds_at o) b)
  IsExpression n (conditional at c a b) = Given (expression_level ≤ n)
      (IsExpression or_level c ⨾ TakesAt terminal.Question at ⨾ IsExpression expression_level a ⨾ Takes terminal.Colon ⨾ IsExpression expression_level b)

  pub AreArguments : Expressions → Part
  AreArguments none = Nothing
  AreArguments (one e es) = IsExpression argument_level e ⨾ AreMoreArguments es

  pub AreMoreArguments : Expressions → Part
  AreMoreArguments none = Nothing
  AreMoreArguments (one e es) = Takes terminal.Comma ⨾ IsExpression argument_level e ⨾ AreMoreArguments es

-- ---- actions and declarations

abbrev pub IsPlace : PlaceTree → Part
IsPlace (variable_place name) = IsName name
IsPlace (element_place name e) = IsName name ⨾ Takes terminal.LeftBracket ⨾ IsExpression expression_level e ⨾ Takes terminal.RightBracket

abbrev pub IsAction : ActionTree → Part
IsAction (call_action stream method es) = IsName stream ⨾ Takes terminal.Dot ⨾ IsPlainName method ⨾ Takes terminal.LeftParen ⨾ SeparatedOrNone (Takes terminal.Comma)
    (IsExpression argument_level) es ⨾ Takes terminal.RightParen
IsAction (write stream es) = IsName stream ⨾ EachOfSome (λ e. Takes terminal.ShiftLeft ⨾ IsExpression sum_level e) es
IsAction (read stream places) = IsName stream ⨾ EachOfSome (λ p. Takes terminal.ShiftRight ⨾ IsPlace p) places
IsAction (assign target o at e) = IsPlace target ⨾ MeansAt assignment_operator_of o at ⨾ IsExpression expression_level e
IsAction (postfix target step at) = IsPlace target ⨾ MeansAt step_operator_of step at
IsAction (prefix_step step at target) = MeansAt step_operator_of step at ⨾ IsPlace target

abbrev pub IsCountForm : CountForm → Part
IsCountForm (literal_count kind value) = IsLiteral kind value
IsCountForm (name_count name) = IsName name
IsCountForm (parenthesized_count e) = Takes terminal.LeftParen ⨾ IsExpression expression_level e ⨾ Takes terminal.RightParen

-- a depth or a number of cells
abbrev pub IsCount : CountTree → Part
IsCount count i j = StandsAt count.place i × IsCountForm count.form i j

abbrev pub IsDeclarator : DeclaratorTree → Part
IsDeclarator (plain name) = IsName name
IsDeclarator (initialized name e) = IsName name ⨾ Takes terminal.Assign ⨾ IsExpression expression_level e
IsDeclarator (array name count) = IsName name ⨾ Takes terminal.LeftBracket ⨾ IsCount count ⨾ Takes terminal.RightBracket

abbrev pub IsDeclaration : DeclarationTree → Part
IsDeclaration d = When d.constant (Takes terminal.Const) ⨾ IsType d.kind ⨾ Separated (Takes terminal.Comma) IsDeclarator d.names

-- ---- attributes

abbrev pub IsAttributeArgument : AttributeArgument → Part
IsAttributeArgument (attribute_argument.Literal kind value) = IsLiteral kind value
IsAttributeArgument attribute_argument.Str = Takes terminal.Str
IsAttributeArgument (attribute_argument.Name name) = IsName name

abbrev pub AreAttributeArguments : Option (List AttributeArgument) → Part
AreAttributeArguments None = Nothing
AreAttributeArguments (Some arguments) = Takes terminal.LeftParen ⨾ SeparatedOrNone (Takes terminal.Comma) IsAttributeArgument arguments ⨾ Takes terminal.RightParen

abbrev pub IsAttribute : AttributeTree → Part
IsAttribute a =
    Takes terminal.LeftBracket ⨾ Takes terminal.LeftBracket ⨾ Takes terminal.Tapa ⨾ Takes terminal.Scope ⨾ IsPlainName a.name
    ⨾ AreAttributeArguments a.arguments ⨾ Takes terminal.RightBracket ⨾ Takes terminal.RightBracket

-- ---- statements

-- No if without an else is open at the statement's end: an else would belong to it (ISO C++ [stmt.if]).
abbrev pub IsClosed : StatementTree → Type 0
IsClosed (attributed attributes s) = IsClosed s
IsClosed (if_only c s) = ⊥
IsClosed (if_else c s t) = IsClosed t
IsClosed (while c s) = IsClosed s
IsClosed (for head s) = IsClosed s
IsClosed (while_not_eot stream s) = IsClosed s
IsClosed _ = Unit {0}

-- the statement has no attributes of its own
abbrev pub IsBare : StatementTree → Type 0
IsBare (attributed attributes s) = ⊥
IsBare _ = Unit {0}

abbrev pub IsStart : StartTree → Part
IsStart no_start = Nothing
IsStart (declare_start d) = IsDeclaration d
IsStart (act_start a) = IsAction a

abbrev pub IsHead : HeadTree → Part
IsHead head = IsStart head.start ⨾ Takes terminal.Semicolon ⨾ Maybe (IsExpression expression_level) head.test ⨾ Takes terminal.Semicolon ⨾ Maybe IsAction head.step

abbrev mutual
  pub IsStatement : StatementTree → Part
  IsStatement (attributed attributes s) = Given (IsBare s) (EachOfSome IsAttribute attributes ⨾ IsStatement s)
  IsStatement empty = Takes terminal.Semicolon
  IsStatement (block ss) = Takes terminal.LeftBrace ⨾ AreStatements ss ⨾ Takes terminal.RightBrace
  IsStatement (declare d) = IsDeclaration d ⨾ Takes terminal.Semicolon
  IsStatement (act a) = IsAction a ⨾ Takes terminal.Semicolon
  IsStatement (if_only c s) = Takes terminal.If ⨾ Takes terminal.LeftParen ⨾ IsExpression expression_level c ⨾ Takes terminal.RightParen ⨾ IsStatement s
  IsStatement (if_else c s t) = Given (IsClosed s)
      (Takes terminal.If ⨾ Takes terminal.LeftParen ⨾ IsExpression expression_level c ⨾ Takes terminal.RightParen ⨾ IsStatement s ⨾ Takes terminal.Else ⨾ IsStatement t)
  IsStatement (while c s) = Takes terminal.While ⨾ Takes terminal.LeftParen ⨾ IsExpression expression_level c ⨾ Takes terminal.RightParen ⨾ IsStatement s
  IsStatement (for head s) = Takes terminal.For ⨾ Takes terminal.LeftParen ⨾ IsHead head ⨾ Takes terminal.RightParen ⨾ IsStatement s
  IsStatement (while_not_eot stream s) = Takes terminal.WhileNotEot ⨾ Takes terminal.LeftParen ⨾ IsName stream ⨾ Takes terminal.RightParen ⨾ IsStatement s
  IsStatement (break at) = TakesAt terminal.Break at ⨾ Takes terminal.Semicolon
  IsStatement (continue at) = TakesAt terminal.Continue at ⨾ Takes terminal.Semicolon

  pub AreStatements : Statements → Part
  AreStatements no_statement = Nothing
  AreStatements (statement_then s ss) = IsStatement s ⨾ AreStatements ss

-- ---- tasks and files

abbrev pub IsParameter : Parameter → Part
IsParameter (parameter.InputStream kind name) = Takes terminal.Tapa ⨾ Takes terminal.Scope ⨾ Takes terminal.Istream ⨾ Takes terminal.Less
    ⨾ IsType kind ⨾ Takes terminal.Greater ⨾ Takes terminal.Ampersand ⨾ IsName name
IsParameter (parameter.OutputStream kind name) = Takes terminal.Tapa ⨾ Takes terminal.Scope ⨾ Takes terminal.Ostream ⨾ Takes terminal.Less
    ⨾ IsType kind ⨾ Takes terminal.Greater ⨾ Takes terminal.Ampersand ⨾ IsName name
IsParameter (parameter.Memory is_const kind name) = Takes terminal.Tapa ⨾ Takes terminal.Scope ⨾ Takes terminal.Mmap ⨾ Takes terminal.Less ⨾ When is_const
    (Takes terminal.Const) ⨾ IsType kind ⨾ Takes terminal.Greater ⨾ IsName name
IsParameter (parameter.Scalar is_const kind name) = When is_const (Takes terminal.Const) ⨾ IsType kind ⨾ IsName name

-- an optional string in parentheses after a stream's name
abbrev pub MayBeLabelled : Part
MayBeLabelled = (Takes terminal.LeftParen ⨾ Takes terminal.Str ⨾ Takes terminal.RightParen) ∣ Nothing

abbrev pub IsStream : StreamTree → Part
IsStream s =
    Takes terminal.Tapa ⨾ Takes terminal.Scope ⨾ Takes terminal.Stream ⨾ Takes terminal.Less ⨾ IsType s.kind ⨾ Maybe (λ count. Takes terminal.Comma ⨾ IsCount count) s.depth
    ⨾ Takes terminal.Greater ⨾ Separated (Takes terminal.Comma) (λ name. IsName name ⨾ MayBeLabelled) s.names ⨾ Takes terminal.Semicolon

abbrev pub IsArgument : ArgumentTree → Part
IsArgument a i j = StandsAt a.place i × IsExpression expression_level a.value i j

abbrev pub IsMode : Name → Part
IsMode mode = Takes terminal.Less ⨾ Takes terminal.Tapa ⨾ Takes terminal.Scope ⨾ IsPlainName mode ⨾ Takes terminal.Greater

abbrev pub IsInvocation : InvocationTree → Part
IsInvocation i =
    Takes terminal.Dot ⨾ Takes terminal.Invoke ⨾ Maybe IsMode i.mode ⨾ Takes terminal.LeftParen ⨾ IsName i.task
    ⨾ Each (λ a. Takes terminal.Comma ⨾ IsArgument a) i.arguments ⨾ Takes terminal.RightParen

abbrev pub IsBody : BodyTree → Part
IsBody (leaf ss) = AreStatements ss
IsBody (upper streams invocations) =
    Each IsStream streams ⨾ Takes terminal.Tapa ⨾ Takes terminal.Scope ⨾ Takes terminal.Task ⨾ Takes terminal.LeftParen ⨾ Takes terminal.RightParen
    ⨾ EachOfSome IsInvocation invocations ⨾ Takes terminal.Semicolon

abbrev pub IsTask : TaskTree → Part
IsTask t =
    Each IsAttribute t.attributes ⨾ Takes terminal.Void ⨾ IsName t.name ⨾ Takes terminal.LeftParen ⨾ SeparatedOrNone (Takes terminal.Comma) IsParameter t.parameters
    ⨾ Takes terminal.RightParen ⨾ Takes terminal.LeftBrace ⨾ IsBody t.body ⨾ TakesAt terminal.RightBrace t.end

abbrev pub IsItem : ItemTree → Part
IsItem (constant attributes kind name e) =
    Each IsAttribute attributes ⨾ (Takes terminal.Const ∣ Takes terminal.Constexpr) ⨾ IsType kind ⨾ IsName name ⨾ Takes terminal.Assign ⨾ IsExpression expression_level e
    ⨾ Takes terminal.Semicolon
IsItem (task t) = IsTask t

-- the symbols have this tree
abbrev pub IsTreeOf : List Symbol → List ItemTree → Type 0
IsTreeOf symbols items = Each IsItem items symbols []

-- no symbols have two trees
abbrev pub HaveOneTree : Type 0
HaveOneTree = (symbols : List Symbol) (a b : List ItemTree) → IsTreeOf symbols a → IsTreeOf symbols b → a ≡ b
