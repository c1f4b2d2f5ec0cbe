-- The rules of expressions, and what an expression means: its kind and its flat form with every conversion written out
-- (ISO C++ [conv.prom], [expr.arith.conv], [expr]).
use Rattle.std.specs.Prelude.{◌-◌, ◌*◌, ◌^◌, ◌%◌, ◌==◌, ◌∷◌, ◌++◌, ◌&&◌, ◌||◌, if◌then◌else◌}
use Rattle.std.specs.Prelude.{ℕ, List, [], Bool, true, false, not, Option, Some, None, codes, bytes_eq, nat_lt}
use Rattle.tapa_base.specs.declared.kind.Kind.{Kind}
use Rattle.tapa_base.specs.declared.kind.Kind.TheVariants as kind
use Rattle.tapa_base.specs.declared.op.Op.{Op}
use Rattle.tapa_base.specs.declared.op.Op.TheVariants as op
use Rattle.tapa_base.specs.declared.text.Place.{Place}
use Rattle.tapa_base.specs.Kinds.{bits_of, values_of, promoted, joined, converted}
use Rattle.tapa_base.specs.Operators.{bit, applied}
pub use Rattle.tapa_base.specs.Operators.{is_comparison}
use Rattle.tapa_syntax.specs.declared.tree.Name.{Name}
use Rattle.tapa_syntax.specs.declared.tree.PrefixOperator.{PrefixOperator}
use Rattle.tapa_syntax.specs.declared.tree.PrefixOperator.TheVariants as prefix
use Rattle.tapa_syntax.specs.declared.tree.BinaryOperator.{BinaryOperator}
use Rattle.tapa_syntax.specs.declared.tree.BinaryOperator.TheVariants.{Value, LogicalAnd, LogicalOr}
use Rattle.tapa_syntax.specs.Trees as tree
use Rattle.tapa_syntax.specs.Trees.{ExpressionTree, Expressions}
use Rattle.tapa_syntax.specs.Flat.{FlatExpression, flat_expression, literal, variable, cell, read, peek, is_end, load, convert, apply, flip, negation, conjunction, disjunction, choice}
use Rattle.check_scope.specs.declared.fault.CheckCode.TheVariants.{C3, C6, C8, C9}
use Rattle.check_scope.specs.declared.entity.Entity.{Entity}
use Rattle.check_scope.specs.declared.entity.Entity.TheVariants as entity
use Rattle.check_scope.specs.Scopes.{Scope, entity_of, kind_of_entity, number_of, is_scalar, is_memory, has_cells, is_stream}
use Rattle.check_scope.specs.Scopes as scope
use Rattle.check_scope.specs.declared.fault.Broken.{Broken}
use Rattle.check_expression.specs.declared.typed.Typed.{Typed}
use Rattle.check_expression.specs.declared.constant.Constant.{Constant}
use Rattle.check_expression.specs.Kinds.{same_kind}
use Rattle.check_scope.specs.Faults.{fault, where_so, wrong_entity, name_faults}

-- ---- methods of streams (TAPA: istream and ostream)

pub data Method : Type 0 where
  reads : Method
  peeks : Method
  tests_end : Method
  writes : ExpressionTree → Method
  opens : Method
  closes : Method

abbrev pub is_nullptr : ExpressionTree → Bool
is_nullptr tree.nullptr = true
is_nullptr e = false

abbrev pub one_method : List ℕ → ExpressionTree → Option Method
one_method name e =
    if bytes_eq name (codes "peek") && is_nullptr e then Some peeks
    else if bytes_eq name (codes "eot") && is_nullptr e then Some tests_end
    else if bytes_eq name (codes "write") && not (is_nullptr e) then Some (writes e)
    else None

-- read(), peek(nullptr), eot(nullptr), write(e), open(), close(), and no other: every other one may answer before its turn
abbrev pub method_of : List ℕ → List ExpressionTree → Option Method
method_of name [] =
    if bytes_eq name (codes "read") then Some reads
    else if bytes_eq name (codes "open") then Some opens
    else if bytes_eq name (codes "close") then Some closes
    else None
method_of name (e ∷ []) = one_method name e
method_of name (e ∷ f ∷ rest) = None

-- it belongs to an ostream
abbrev pub of_output : Method → Bool
of_output (writes e) = true
of_output closes = true
of_output _ = false

abbrev pub gives_value : Method → Bool
gives_value reads = true
gives_value peeks = true
gives_value tests_end = true
gives_value _ = false

abbrev pub listed : Expressions → List ExpressionTree
listed tree.none = []
listed (tree.one e es) = e ∷ listed es

-- C3: an output is not read and an input not written
abbrev pub wrong_direction : Bool → Method → Name → List Broken
wrong_direction is_written m s = where_so (not (if of_output m then is_written else not is_written)) (fault C3 s.place)

-- C6: of the stream's methods, one with the arguments that it takes
abbrev pub method_faults : Bool → Option Method → Name → Name → List Broken
method_faults is_written None s m = fault C6 m.place
method_faults is_written (Some method) s m = wrong_direction is_written method s

-- C1, C3: a method is called on a stream
abbrev pub call_faults : Option Entity → Option Method → Name → Name → List Broken
call_faults (Some (entity.Stream is_written k n)) method s m = method_faults is_written method s m
call_faults entity method s m = wrong_entity is_stream s.place entity

-- C3: write, open and close give no value
abbrev pub no_value : Option Method → Name → List Broken
no_value None m = []
no_value (Some method) m = where_so (not (gives_value method)) (fault C3 m.place)

-- ---- kinds

abbrev pub call_kind : Kind → Option Method → Kind
call_kind k (Some tests_end) = kind.Bool
call_kind k method = k

abbrev pub prefix_kind : PrefixOperator → Kind → Kind
prefix_kind prefix.Not k = kind.Bool
prefix_kind o k = promoted k

-- the kind in which an operator is done
abbrev pub operated_kind : Op → Kind → Kind → Kind
operated_kind op.Shl j k = promoted j
operated_kind op.Shr j k = promoted j
operated_kind o j k = joined j k

abbrev pub binary_kind : BinaryOperator → Kind → Kind → Kind
binary_kind (Value o) j k = if is_comparison o then kind.Bool else operated_kind o j k
binary_kind LogicalAnd j k = kind.Bool
binary_kind LogicalOr j k = kind.Bool

-- two arms of one kind keep it
abbrev pub arm_kind : Kind → Kind → Kind
arm_kind j k = if same_kind j k then j else joined j k

abbrev pub kind_of : Scope → ExpressionTree → Kind
kind_of E (tree.literal k n) = k
kind_of E (tree.boolean b) = kind.Bool
kind_of E (tree.variable x) = kind_of_entity (entity_of x.text E)
kind_of E (tree.element x e) = kind_of_entity (entity_of x.text E)
kind_of E (tree.call s m es) = call_kind (kind_of_entity (entity_of s.text E)) (method_of m.text (listed es))
kind_of E tree.nullptr = kind.U64
kind_of E (tree.construct k e) = k
kind_of E (tree.static_cast k e) = k
kind_of E (tree.cast k e) = k
kind_of E (tree.parenthesized e) = kind_of E e
kind_of E (tree.prefix o at e) = prefix_kind o (kind_of E e)
kind_of E (tree.binary o at a b) = binary_kind o (kind_of E a) (kind_of E b)
kind_of E (tree.conditional at c a b) = arm_kind (kind_of E a) (kind_of E b)

-- ---- the flat form

-- a value of the first kind as one of the second: with a conversion where the kinds differ
abbrev pub as_kind : Kind → Kind → FlatExpression → FlatExpression
as_kind from to e = if same_kind from to then e else convert from to e

abbrev pub named_value : Option Entity → FlatExpression
named_value (Some (entity.Constant k n)) = literal k n
named_value entity = variable (number_of entity)

abbrev pub cell_value : Option Entity → FlatExpression → FlatExpression
cell_value (Some (entity.Memory free k n)) i = load n i
cell_value entity i = cell (number_of entity) i

abbrev pub called_value : ℕ → Option Method → FlatExpression
called_value n (Some peeks) = peek n
called_value n (Some tests_end) = is_end n
called_value n method = read n

-- an operator on two values of these kinds
abbrev pub operated : Op → Kind → Kind → FlatExpression → FlatExpression → FlatExpression
operated op.Shl j k a b = apply op.Shl (promoted j) (as_kind j (promoted j) a) (as_kind k kind.U64 b)
operated op.Shr j k a b = apply op.Shr (promoted j) (as_kind j (promoted j) a) (as_kind k kind.U64 b)
operated o j k a b = apply o (joined j k) (as_kind j (joined j k) a) (as_kind k (joined j k) b)

abbrev pub binary_value : BinaryOperator → Kind → Kind → FlatExpression → FlatExpression → FlatExpression
binary_value (Value o) j k a b = operated o j k a b
binary_value LogicalAnd j k a b = conjunction (as_kind j kind.Bool a) (as_kind k kind.Bool b)
binary_value LogicalOr j k a b = disjunction (as_kind j kind.Bool a) (as_kind k kind.Bool b)

-- -e is 0 - e, and +e is e, in the promoted kind
abbrev pub prefix_value : PrefixOperator → Kind → FlatExpression → FlatExpression
prefix_value prefix.Negate k e = apply op.Sub (promoted k) (literal (promoted k) 0) (as_kind k (promoted k) e)
prefix_value prefix.Plus k e = as_kind k (promoted k) e
prefix_value prefix.Complement k e = flip (promoted k) (as_kind k (promoted k) e)
prefix_value prefix.Not k e = negation (as_kind k kind.Bool e)

-- a literal's value is one of its kind
abbrev pub value_of : Scope → ExpressionTree → FlatExpression
value_of E (tree.literal k n) = literal k (n % values_of k)
value_of E (tree.boolean b) = literal kind.Bool (bit b)
value_of E (tree.variable x) = named_value (entity_of x.text E)
value_of E (tree.element x e) = cell_value (entity_of x.text E) (as_kind (kind_of E e) kind.U64 (value_of E e))
value_of E (tree.call s m es) = called_value (number_of (entity_of s.text E)) (method_of m.text (listed es))
value_of E tree.nullptr = literal kind.U64 0
value_of E (tree.construct k e) = as_kind (kind_of E e) k (value_of E e)
value_of E (tree.static_cast k e) = as_kind (kind_of E e) k (value_of E e)
value_of E (tree.cast k e) = as_kind (kind_of E e) k (value_of E e)
value_of E (tree.parenthesized e) = value_of E e
value_of E (tree.prefix o at e) = prefix_value o (kind_of E e) (value_of E e)
value_of E (tree.binary o at a b) = binary_value o (kind_of E a) (kind_of E b) (value_of E a) (value_of E b)
value_of E (tree.conditional at c a b) =
    choice (as_kind (kind_of E c) kind.Bool (value_of E c)) (as_kind (kind_of E a) (arm_kind (kind_of E a) (kind_of E b)) (value_of E a))
    (as_kind (kind_of E b) (arm_kind (kind_of E a) (kind_of E b)) (value_of E b))

-- an expression where a value of this kind is wanted
abbrev pub wanted : Scope → Kind → ExpressionTree → FlatExpression
wanted E k e = as_kind (kind_of E e) k (value_of E e)

-- the flat form of an expression, and its kind
pub record Meaning : Type 0 where
  pub value : FlatExpression
  pub kind : Kind

abbrev pub meaning_of : Scope → ExpressionTree → Meaning
meaning_of E e = record { value = value_of E e; kind = kind_of E e }

abbrev pub typed : Typed → Meaning
typed t = record { value = flat_expression t.value; kind = t.kind }

-- a call of a stream's method as an operand
abbrev pub operand : Option Entity → Option Method → Meaning
operand entity method = record { value = called_value (number_of entity) method; kind = call_kind (kind_of_entity entity) method }

-- ---- constant expressions: literals, constants of the file, operators and casts (nullptr is a literal too, [lex.nullptr],
-- and is legal only as an argument of a method)

-- a name in it is that of a constant
abbrev pub is_constant_name : Option Entity → Bool
is_constant_name (Some (entity.Constant k n)) = true
is_constant_name entity = false

abbrev pub is_constant : Scope → ExpressionTree → Bool
is_constant E (tree.literal k n) = true
is_constant E (tree.boolean b) = true
is_constant E (tree.variable x) = is_constant_name (entity_of x.text E)
is_constant E (tree.element x e) = false
is_constant E (tree.call s m es) = false
is_constant E tree.nullptr = true
is_constant E (tree.construct k e) = is_constant E e
is_constant E (tree.static_cast k e) = is_constant E e
is_constant E (tree.cast k e) = is_constant E e
is_constant E (tree.parenthesized e) = is_constant E e
is_constant E (tree.prefix o at e) = is_constant E e
is_constant E (tree.binary o at a b) = is_constant E a && is_constant E b
is_constant E (tree.conditional at c a b) = is_constant E c && is_constant E a && is_constant E b

-- the value of a flat expression of literals, conversions and operators
abbrev pub constant_value : FlatExpression → ℕ
constant_value (literal k n) = n
constant_value (convert from to e) = converted from to (constant_value e)
constant_value (apply o k a b) = applied o k (constant_value a) (constant_value b)
constant_value (flip k e) = 2 ^ bits_of k - 1 - constant_value e
constant_value (negation e) = 1 - constant_value e
constant_value (conjunction a b) = constant_value a * constant_value b
constant_value (disjunction a b) = 1 - (1 - constant_value a) * (1 - constant_value b)
constant_value (choice c a b) = if constant_value c == 0 then constant_value b else constant_value a
constant_value e = 0

-- the value of a constant expression, and its kind
abbrev pub constant_of : Scope → ExpressionTree → Option Constant
constant_of E e = if is_constant E e then Some (record { kind = kind_of E e; value = constant_value (value_of E e) }) else None

-- ---- the rules

abbrev pub divides : BinaryOperator → Bool
divides (Value op.Div) = true
divides (Value op.Rem) = true
divides o = false

-- C9: a divisor is a constant expression other than 0 (ISO C++ [expr.mul]; that it is constant is the profile's own rule)
abbrev pub divisor_faults : Scope → Bool → Place → ExpressionTree → List Broken
divisor_faults E false at b = []
divisor_faults E true at b = where_so (not (is_constant E b && nat_lt 0 (constant_value (value_of E b)))) (fault C9 at)

-- the right operand of && and || is evaluated conditionally
abbrev pub is_logical : BinaryOperator → Bool
is_logical (Value o) = false
is_logical LogicalAnd = true
is_logical LogicalOr = true

-- the faults of a call as an operand
abbrev pub operand_faults : Option Entity → Bool → Option Method → Name → Name → List Broken
operand_faults entity c method s m = call_faults entity method s m ++ no_value method m ++ where_so c (fault C8 m.place)

-- The faults of an expression in the order of the text. An expression that is evaluated conditionally, which is the right operand of &&
-- or || or an arm of ?:, has no operation on a stream or memory (C8): C++ would make it only where the operand is evaluated.
abbrev pub faults_of : Scope → Bool → ExpressionTree → List Broken
faults_of E c (tree.literal k n) = []
faults_of E c (tree.boolean b) = []
faults_of E c (tree.variable x) = name_faults E is_scalar x
faults_of E c (tree.element x e) = name_faults E has_cells x ++ where_so (c && is_memory (entity_of x.text E)) (fault C8 x.place) ++ faults_of E c e
faults_of E c (tree.call s m es) = operand_faults (entity_of s.text E) c (method_of m.text (listed es)) s m
faults_of E c tree.nullptr = []
faults_of E c (tree.construct k e) = faults_of E c e
faults_of E c (tree.static_cast k e) = faults_of E c e
faults_of E c (tree.cast k e) = faults_of E c e
faults_of E c (tree.parenthesized e) = faults_of E c e
faults_of E c (tree.prefix o at e) = faults_of E c e
faults_of E c (tree.binary o at a b) = faults_of E c a ++ divisor_faults E (divides o) at b ++ faults_of E (c || is_logical o) b
faults_of E c (tree.conditional at d a b) = faults_of E c d ++ faults_of E true a ++ faults_of E true b

-- C3: a name in a constant expression is that of a constant
abbrev pub constant_faults : Scope → ExpressionTree → List Broken
constant_faults E (tree.variable x) = name_faults E scope.is_constant x
constant_faults E (tree.element x e) = name_faults E (λ s. false) x
constant_faults E (tree.call s m es) = name_faults E (λ s. false) s
constant_faults E (tree.construct k e) = constant_faults E e
constant_faults E (tree.static_cast k e) = constant_faults E e
constant_faults E (tree.cast k e) = constant_faults E e
constant_faults E (tree.parenthesized e) = constant_faults E e
constant_faults E (tree.prefix o at e) = constant_faults E e
constant_faults E (tree.binary o at a b) = constant_faults E a ++ divisor_faults E (divides o) at b ++ constant_faults E b
constant_faults E (tree.conditional at c a b) = constant_faults E c ++ constant_faults E a ++ constant_faults E b
constant_faults E e = []
