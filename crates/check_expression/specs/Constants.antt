-- What operators give on constants: what their flat forms give on literals.
use Rattle.std.specs.Prelude.{◌<◌, Option, Some, None}
use Rattle.tapa_base.specs.declared.kind.Kind.{Kind}
use Rattle.tapa_base.specs.declared.kind.Kind.TheVariants.{Bool}
use Rattle.tapa_base.specs.Kinds.{values_of}
use Rattle.tapa_syntax.specs.declared.tree.PrefixOperator.{PrefixOperator}
use Rattle.tapa_syntax.specs.declared.tree.BinaryOperator.{BinaryOperator}
use Rattle.tapa_syntax.specs.Trees.{ExpressionTree}
use Rattle.tapa_syntax.specs.Flat.{FlatExpression, literal, choice}
use Rattle.check_scope.specs.declared.entity.Entity.{Entity}
use Rattle.check_scope.specs.declared.entity.Entity.TheVariants as entity
use Rattle.check_expression.specs.declared.constant.Constant.{Constant}
use Rattle.check_scope.specs.Scopes.{Scope}
use Rattle.check_expression.specs.Expressions.{kind_of, value_of, as_kind, prefix_kind, binary_kind, arm_kind, prefix_value, binary_value, constant_value}

abbrev pub IsWithin : Constant → Type 0
IsWithin c = c.value < values_of c.kind

abbrev pub literal_of : Constant → FlatExpression
literal_of c = literal c.kind c.value

-- of a kind, with the value of a flat form
abbrev pub made : Kind → FlatExpression → Constant
made k e = record { kind = k; value = constant_value e }

abbrev pub cast : Kind → Constant → Constant
cast k c = made k (as_kind c.kind k (literal_of c))

abbrev pub prefixed : PrefixOperator → Constant → Constant
prefixed o c = made (prefix_kind o c.kind) (prefix_value o c.kind (literal_of c))

abbrev pub binary : BinaryOperator → Constant → Constant → Constant
binary o a b = made (binary_kind o a.kind b.kind) (binary_value o a.kind b.kind (literal_of a) (literal_of b))

abbrev pub chosen : Constant → Constant → Constant → Constant
chosen t a b =
    made (arm_kind a.kind b.kind)
    (choice (as_kind t.kind Bool (literal_of t)) (as_kind a.kind (arm_kind a.kind b.kind) (literal_of a)) (as_kind b.kind (arm_kind a.kind b.kind) (literal_of b)))

-- the constant that a name is
abbrev pub of_entity : Option Entity → Option Constant
of_entity (Some (entity.Constant k n)) = Some (record { kind = k; value = n })
of_entity entity = None

-- the value of a constant expression, and its kind
abbrev pub known_of : Scope → ExpressionTree → Constant
known_of E e = made (kind_of E e) (value_of E e)
