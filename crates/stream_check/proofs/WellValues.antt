-- The value of a constant expression is one of its kind.
use Rattle.std.proofs.Common.{◌≡◌, ◌<◌, ◌-◌, ◌*◌, ◌%◌, ℕ, zero, suc, List, [], ◌∷◌, ◌++◌, get_or, Bool, true, false, ◌&&◌, Some, None, refl, sym, ap, subst, ◌∙◌, arith}
use Rattle.std.specs.Prelude.{Option, ◌==◌, if◌then◌else◌}
use Rattle.tapa_base.specs.declared.kind.Kind.{Kind}
use Rattle.tapa_base.specs.declared.kind.Kind.TheVariants as kind
use Rattle.tapa_base.specs.declared.op.Op.{Op}
use Rattle.tapa_base.specs.declared.op.Op.TheVariants as op
use Rattle.tapa_base.specs.Kinds.{bits_of, values_of, promoted, joined}
use Rattle.tapa_base.specs.Operators.{applied}
use Rattle.tapa_syntax.specs.Typed.{result_kind, right_kind}
use Rattle.tapa_syntax.specs.declared.tree.PrefixOperator.{PrefixOperator}
use Rattle.tapa_syntax.specs.declared.tree.PrefixOperator.TheVariants as prefix
use Rattle.tapa_syntax.specs.declared.tree.BinaryOperator.{BinaryOperator}
use Rattle.tapa_syntax.specs.declared.tree.BinaryOperator.TheVariants.{Value, LogicalAnd, LogicalOr}
use Rattle.tapa_syntax.specs.Flat.{FlatExpression, convert}
use Rattle.tapa_syntax.specs.Trees as tree
use Rattle.tapa_syntax.specs.Trees.{ExpressionTree}
use Rattle.check_expression.specs.Expressions.{as_kind, operated, operated_kind, is_comparison, prefix_kind, prefix_value, binary_kind, binary_value, arm_kind, constant_value, constant_faults, is_constant, is_constant_name, kind_of, value_of, wanted, cell_value, named_value, called_value, Method, divides, divisor_faults}
use Rattle.check_expression.specs.Expressions as meaning
use Rattle.check_expression.specs.Kinds.{rank, same_kind}
use Rattle.check_scope.specs.declared.entity.Entity.{Entity}
use Rattle.check_scope.specs.declared.entity.Entity.TheVariants as entity
use Rattle.check_scope.specs.Scopes.{Scope, entity_of, kind_of_entity, IsSound}
use Rattle.check_scope.specs.Scopes as scope
use Rattle.tapa_syntax.proofs.Values.{converted_fits, applied_fits, bit_fits, if_below as choice_below}
use Rattle.tapa_base.proofs.Tests.{some_values, not_below as one_minus, both_below as product_below}
use Rattle.check_leaf.proofs.Conversions.{same_kinds as kinds_same}

abbrev kind_at : ℕ → Kind
kind_at n = get_or (kind.Bool ∷ kind.I8 ∷ kind.U8 ∷ kind.I16 ∷ kind.U16 ∷ kind.I32 ∷ kind.U32 ∷ kind.I64 ∷ kind.U64 ∷ []) n kind.U64

at_rank : (k : Kind) → kind_at (rank k) ≡ k
at_rank kind.Bool = refl
at_rank kind.I8 = refl
at_rank kind.U8 = refl
at_rank kind.I16 = refl
at_rank kind.U16 = refl
at_rank kind.I32 = refl
at_rank kind.U32 = refl
at_rank kind.I64 = refl
at_rank kind.U64 = refl

as_kind_by : (j k : Kind) (e : FlatExpression) (b : Bool) → same_kind j k ≡ b → constant_value e < values_of j → constant_value (if b then e else convert j k e) < values_of k
as_kind_by j k e true h l = subst (λ i. constant_value e < values_of i) (kinds_same j k h) l
as_kind_by j k e false h l = converted_fits j k (constant_value e)

pub as_kind_fits : (j k : Kind) (e : FlatExpression) → constant_value e < values_of j → constant_value (as_kind j k e) < values_of k
as_kind_fits j k e l = as_kind_by j k e (same_kind j k) refl l

-- the names in scope are sound
abbrev pub Sound : Scope → Type 0
Sound E = (x : List ℕ) (s : Entity) → entity_of x E ≡ Some s → IsSound s

named_fits : (o : Option Entity) → ((s : Entity) → o ≡ Some s → IsSound s) → constant_value (named_value o) < values_of (kind_of_entity o)
named_fits (Some (entity.Constant k n)) h = h (entity.Constant k n) refl
named_fits (Some (entity.Variable free k n)) h = some_values k
named_fits (Some (entity.Array free k n)) h = some_values k
named_fits (Some (entity.Memory free k n)) h = some_values k
named_fits (Some (entity.Stream writes k n)) h = some_values k
named_fits (Some (entity.Channel k n)) h = some_values k
named_fits (Some (entity.Task task_number)) h = some_values kind.U64
named_fits None h = some_values kind.U64

cell_is : (o : Option Entity) (e : FlatExpression) → constant_value (cell_value o e) ≡ 0
cell_is (Some (entity.Constant k n)) e = refl
cell_is (Some (entity.Variable free k n)) e = refl
cell_is (Some (entity.Array free k n)) e = refl
cell_is (Some (entity.Memory free k n)) e = refl
cell_is (Some (entity.Stream writes k n)) e = refl
cell_is (Some (entity.Channel k n)) e = refl
cell_is (Some (entity.Task task_number)) e = refl
cell_is None e = refl

zero_below : (k : Kind) (n : ℕ) → n ≡ 0 → n < values_of k
zero_below k n h = let p = some_values k in subst (λ m. m < values_of k) (sym h) p

complement_below : (n m : ℕ) → 0 < m → m - 1 - n < m
complement_below n m h = omega arith

prefix_fits : (o : PrefixOperator) (k : Kind) (e : FlatExpression) → constant_value e < values_of k → constant_value (prefix_value o k e) < values_of (prefix_kind o k)
prefix_fits prefix.Negate k e h = applied_fits op.Sub (promoted k) 0 (constant_value (as_kind k (promoted k) e)) (some_values (promoted k)) (as_kind_fits k (promoted k) e h)
prefix_fits prefix.Plus k e h = as_kind_fits k (promoted k) e h
prefix_fits prefix.Complement k e h = complement_below (constant_value (as_kind k (promoted k) e)) (values_of (promoted k)) (some_values (promoted k))
prefix_fits prefix.Not k e h = one_minus (constant_value (as_kind k kind.Bool e))

both_fit : (o : Op) (j k l : Kind) (a b : FlatExpression) → right_kind o l ≡ l → constant_value a < values_of j → constant_value b < values_of k → applied o l (constant_value (as_kind j l a)) (constant_value (as_kind k l b)) < values_of (result_kind o l)
both_fit o j k l a b e p q = applied_fits o l (constant_value (as_kind j l a)) (constant_value (as_kind k l b)) (as_kind_fits j l a p) (subst (λ i. constant_value (as_kind k l b) < values_of i) (sym e) (as_kind_fits k l b q))

operated_fits : (o : Op) (j k : Kind) (a b : FlatExpression) → constant_value a < values_of j → constant_value b < values_of k → constant_value (operated o j k a b) < values_of (if is_comparison o then kind.Bool else operated_kind o j k)
operated_fits op.Shl j k a b p q = applied_fits op.Shl (promoted j) (constant_value (as_kind j (promoted j) a)) (constant_value (as_kind k kind.U64 b)) (as_kind_fits j (promoted j) a p) (as_kind_fits k kind.U64 b q)
operated_fits op.Shr j k a b p q = applied_fits op.Shr (promoted j) (constant_value (as_kind j (promoted j) a)) (constant_value (as_kind k kind.U64 b)) (as_kind_fits j (promoted j) a p) (as_kind_fits k kind.U64 b q)
operated_fits op.Add j k a b p q = both_fit op.Add j k (joined j k) a b refl p q
operated_fits op.Sub j k a b p q = both_fit op.Sub j k (joined j k) a b refl p q
operated_fits op.Mul j k a b p q = both_fit op.Mul j k (joined j k) a b refl p q
operated_fits op.Div j k a b p q = both_fit op.Div j k (joined j k) a b refl p q
operated_fits op.Rem j k a b p q = both_fit op.Rem j k (joined j k) a b refl p q
operated_fits op.And j k a b p q = both_fit op.And j k (joined j k) a b refl p q
operated_fits op.Or j k a b p q = both_fit op.Or j k (joined j k) a b refl p q
operated_fits op.Xor j k a b p q = both_fit op.Xor j k (joined j k) a b refl p q
operated_fits op.Eq j k a b p q = both_fit op.Eq j k (joined j k) a b refl p q
operated_fits op.Ne j k a b p q = both_fit op.Ne j k (joined j k) a b refl p q
operated_fits op.Lt j k a b p q = both_fit op.Lt j k (joined j k) a b refl p q
operated_fits op.Le j k a b p q = both_fit op.Le j k (joined j k) a b refl p q
operated_fits op.Gt j k a b p q = both_fit op.Gt j k (joined j k) a b refl p q
operated_fits op.Ge j k a b p q = both_fit op.Ge j k (joined j k) a b refl p q

binary_fits : (o : BinaryOperator) (j k : Kind) (a b : FlatExpression) → constant_value a < values_of j → constant_value b < values_of k → constant_value (binary_value o j k a b) < values_of (binary_kind o j k)
binary_fits (Value o) j k a b p q = operated_fits o j k a b p q
binary_fits LogicalAnd j k a b p q = product_below (constant_value (as_kind j kind.Bool a)) (constant_value (as_kind k kind.Bool b)) (as_kind_fits j kind.Bool a p) (as_kind_fits k kind.Bool b q)
binary_fits LogicalOr j k a b p q = one_minus ((1 - constant_value (as_kind j kind.Bool a)) * (1 - constant_value (as_kind k kind.Bool b)))

called_is : (n : ℕ) (m : Option Method) → constant_value (called_value n m) ≡ 0
called_is n None = refl
called_is n (Some meaning.reads) = refl
called_is n (Some meaning.peeks) = refl
called_is n (Some meaning.tests_end) = refl
called_is n (Some (meaning.writes e)) = refl
called_is n (Some meaning.opens) = refl
called_is n (Some meaning.closes) = refl

remainder_fits : (n : ℕ) (k : Kind) → n % values_of k < values_of k
remainder_fits n k = let h = some_values k in omega arith

pub value_fits : (E : Scope) → Sound E → (e : ExpressionTree) → constant_value (value_of E e) < values_of (kind_of E e)
value_fits E s (tree.literal k n) = remainder_fits n k
value_fits E s (tree.boolean b) = bit_fits b
value_fits E s (tree.variable x) = named_fits (entity_of x.text E) (s x.text)
value_fits E s (tree.element x e) = zero_below (kind_of E (tree.element x e)) (constant_value (value_of E (tree.element x e))) (cell_is (entity_of x.text E) (as_kind (kind_of E e) kind.U64 (value_of E e)))
value_fits E s (tree.call x m es) = zero_below (kind_of E (tree.call x m es)) (constant_value (value_of E (tree.call x m es))) (called_is (scope.number_of (entity_of x.text E)) _)
value_fits E s tree.nullptr = some_values kind.U64
value_fits E s (tree.construct k e) = as_kind_fits (kind_of E e) k (value_of E e) (value_fits E s e)
value_fits E s (tree.static_cast k e) = as_kind_fits (kind_of E e) k (value_of E e) (value_fits E s e)
value_fits E s (tree.cast k e) = as_kind_fits (kind_of E e) k (value_of E e) (value_fits E s e)
value_fits E s (tree.parenthesized e) = value_fits E s e
value_fits E s (tree.prefix o at e) = prefix_fits o (kind_of E e) (value_of E e) (value_fits E s e)
value_fits E s (tree.binary o at a b) = binary_fits o (kind_of E a) (kind_of E b) (value_of E a) (value_of E b) (value_fits E s a) (value_fits E s b)
value_fits E s (tree.conditional at c a b) =
    let k = arm_kind (kind_of E a) (kind_of E b) in
    choice_below (constant_value (as_kind (kind_of E c) kind.Bool (value_of E c)) == 0)
    (constant_value (as_kind (kind_of E b) (arm_kind (kind_of E a) (kind_of E b)) (value_of E b)))
    (constant_value (as_kind (kind_of E a) (arm_kind (kind_of E a) (kind_of E b)) (value_of E a)))
    (values_of (arm_kind (kind_of E a) (kind_of E b)))
    (as_kind_fits (kind_of E b) (arm_kind (kind_of E a) (kind_of E b)) (value_of E b) (value_fits E s b))
    (as_kind_fits (kind_of E a) (arm_kind (kind_of E a) (kind_of E b)) (value_of E a) (value_fits E s a))

pub wanted_fits : (E : Scope) → Sound E → (k : Kind) (e : ExpressionTree) → constant_value (wanted E k e) < values_of k
wanted_fits E s k e = as_kind_fits (kind_of E e) k (value_of E e) (value_fits E s e)

-- ---- what has no fault as a constant is one
