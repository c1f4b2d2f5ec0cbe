-- Constant expressions: their values are those that their parts give.
use Rattle.std.proofs.Common.{◌≡◌, ℕ, ◌-◌, ◌*◌, ◌^◌, List, [], ◌∷◌, ◌++◌, Bool, true, false, ◌&&◌, Some, None, refl, ap, ◌∙◌}
use Rattle.std.specs.Prelude.{Option, ◌==◌, if◌then◌else◌}
use Rattle.tapa_base.specs.declared.kind.Kind.{Kind}
use Rattle.tapa_base.specs.declared.kind.Kind.TheVariants as kind
use Rattle.tapa_base.specs.declared.op.Op.{Op}
use Rattle.tapa_base.specs.declared.op.Op.TheVariants as op
use Rattle.tapa_base.specs.declared.text.Place.{Place}
use Rattle.tapa_base.specs.Kinds.{bits_of, promoted, joined}
use Rattle.tapa_base.specs.Operators.{applied}
use Rattle.tapa_syntax.specs.declared.tree.PrefixOperator.{PrefixOperator}
use Rattle.tapa_syntax.specs.declared.tree.PrefixOperator.TheVariants as prefix
use Rattle.tapa_syntax.specs.declared.tree.BinaryOperator.{BinaryOperator}
use Rattle.tapa_syntax.specs.declared.tree.BinaryOperator.TheVariants.{Value, LogicalAnd, LogicalOr}
use Rattle.tapa_syntax.specs.Flat.{FlatExpression, literal, convert, choice}
use Rattle.tapa_syntax.specs.Trees as tree
use Rattle.tapa_syntax.specs.Trees.{ExpressionTree}
use Rattle.check_expression.specs.declared.constant.Constant.{Constant}
use Rattle.check_expression.specs.Constants.{made, prefixed, binary, chosen}
use Rattle.check_expression.specs.Expressions.{as_kind, operated, constant_faults, divides, divisor_faults, is_constant_name, prefix_kind, prefix_value, binary_kind, binary_value, arm_kind, constant_value, constant_of, is_constant, kind_of, value_of}
use Rattle.check_expression.specs.Kinds.{same_kind}
use Rattle.check_scope.specs.declared.fault.Broken.{Broken}
use Rattle.check_scope.specs.declared.entity.Entity.{Entity}
use Rattle.check_scope.specs.declared.entity.Entity.TheVariants as entity
use Rattle.check_scope.specs.Faults.{wrong_entity}
use Rattle.check_scope.specs.Scopes.{Scope, entity_of}
use Rattle.std.proofs.lemmas.Bool.{and_from as and_true}
use Rattle.check_scope.specs.Scopes as scope

if_value : (b : Bool) (j k : Kind) (e : FlatExpression) → constant_value (if b then literal j (constant_value e) else convert j k (literal j (constant_value e))) ≡ constant_value (if b then e else convert j k e)
if_value true j k e = refl
if_value false j k e = refl

-- a conversion sees of its operand its value alone
as_value : (j k : Kind) (e : FlatExpression) → constant_value (as_kind j k (literal j (constant_value e))) ≡ constant_value (as_kind j k e)
as_value j k e = if_value (same_kind j k) j k e

prefix_as_value : (o : PrefixOperator) (k : Kind) (e : FlatExpression) → constant_value (prefix_value o k (literal k (constant_value e))) ≡ constant_value (prefix_value o k e)
prefix_as_value prefix.Negate k e = ap (λ n. applied op.Sub (promoted k) 0 n) (as_value k (promoted k) e)
prefix_as_value prefix.Plus k e = as_value k (promoted k) e
prefix_as_value prefix.Complement k e = ap (λ n. 2 ^ bits_of (promoted k) - 1 - n) (as_value k (promoted k) e)
prefix_as_value prefix.Not k e = ap (λ n. 1 - n) (as_value k kind.Bool e)

both_values : (f : ℕ → ℕ → ℕ) (i j k l : Kind) (a b : FlatExpression) → f (constant_value (as_kind i j (literal i (constant_value a)))) (constant_value (as_kind k l (literal k (constant_value b)))) ≡ f (constant_value (as_kind i j a)) (constant_value (as_kind k l b))
both_values f i j k l a b = ap (λ n. f n (constant_value (as_kind k l (literal k (constant_value b))))) (as_value i j a) ∙ ap (f (constant_value (as_kind i j a))) (as_value k l b)

operated_value : (o : Op) (j k : Kind) (a b : FlatExpression) → constant_value (operated o j k (literal j (constant_value a)) (literal k (constant_value b))) ≡ constant_value (operated o j k a b)
operated_value op.Shl j k a b = both_values (applied op.Shl (promoted j)) j (promoted j) k kind.U64 a b
operated_value op.Shr j k a b = both_values (applied op.Shr (promoted j)) j (promoted j) k kind.U64 a b
operated_value o j k a b = both_values (applied o (joined j k)) j (joined j k) k (joined j k) a b

binary_as_value : (o : BinaryOperator) (j k : Kind) (a b : FlatExpression) → constant_value (binary_value o j k (literal j (constant_value a)) (literal k (constant_value b))) ≡ constant_value (binary_value o j k a b)
binary_as_value (Value o) j k a b = operated_value o j k a b
binary_as_value LogicalAnd j k a b = both_values (λ m n. m * n) j kind.Bool k kind.Bool a b
binary_as_value LogicalOr j k a b = both_values (λ m n. 1 - (1 - m) * (1 - n)) j kind.Bool k kind.Bool a b

chosen_value : (i j k l : Kind) (c a b : FlatExpression) → constant_value (choice (as_kind i kind.Bool (literal i (constant_value c))) (as_kind j l (literal j (constant_value a))) (as_kind k l (literal k (constant_value b)))) ≡ constant_value (choice (as_kind i kind.Bool c) (as_kind j l a) (as_kind k l b))
chosen_value i j k l c a b =
    ap (λ n. if n == 0 then constant_value (as_kind k l (literal k (constant_value b))) else constant_value (as_kind j l (literal j (constant_value a)))) (as_value i kind.Bool c)
    ∙ both_values (λ m n. if constant_value (as_kind i kind.Bool c) == 0 then n else m) j l k l a b

-- ---- constants where the parts are

one_constant : (p : Bool) (f : Constant → Constant) (x y c : Constant) → f x ≡ y → Some c ≡ (if p then Some x else None) → Some (f c) ≡ (if p then Some y else None)
one_constant true f x y c e h = let same : c ≡ x = cc in ap (λ d. Some (f d)) same ∙ ap Some e
one_constant false f x y c e h = absurd (cc)

two_constants : (p q : Bool) (f : Constant → Constant → Constant) (x y z c d : Constant) → f x y ≡ z → Some c ≡ (if p then Some x else None) → Some d ≡ (if q then Some y else None) → Some (f c d) ≡ (if p && q then Some z else None)
two_constants true q f x y z c d e h k = let same : c ≡ x = cc in one_constant q (f c) y z d (ap (λ v. f v y) same ∙ e) k
two_constants false q f x y z c d e h k = absurd (cc)

three_constants : (p q r : Bool) (f : Constant → Constant → Constant → Constant) (x y z w c d e : Constant) → f x y z ≡ w → Some c ≡ (if p then Some x else None) → Some d ≡ (if q then Some y else None) → Some e ≡ (if r then Some z else None) → Some (f c d e) ≡ (if p && q && r then Some w else None)
three_constants true q r f x y z w c d e g h k l = let same : c ≡ x = cc in two_constants q r (f c) y z w d e (ap (λ v. f v y z) same ∙ g) k l
three_constants false q r f x y z w c d e g h k l = absurd (cc)

pub constant-prefix : (E : Scope) (o : PrefixOperator) (at : Place) (e : ExpressionTree) (c : Constant) → Some c ≡ constant_of E e → Some (prefixed o c) ≡ constant_of E (tree.prefix o at e)
constant-prefix E o at e c h = one_constant (is_constant E e) (prefixed o) (made (kind_of E e) (value_of E e)) _ c (ap (λ n. record { kind = prefix_kind o (kind_of E e); value = n }) (prefix_as_value o (kind_of E e) (value_of E e))) h

pub constant-binary : (E : Scope) (o : BinaryOperator) (at : Place) (a b : ExpressionTree) (c d : Constant) → Some c ≡ constant_of E a → Some d ≡ constant_of E b → Some (binary o c d) ≡ constant_of E (tree.binary o at a b)
constant-binary E o at a b c d h k =
    two_constants (is_constant E a) (is_constant E b) (binary o) (made (kind_of E a) (value_of E a)) (made (kind_of E b) (value_of E b)) _ c d
    (ap (λ n. record { kind = binary_kind o (kind_of E a) (kind_of E b); value = n }) (binary_as_value o (kind_of E a) (kind_of E b) (value_of E a) (value_of E b))) h k

pub constant-conditional : (E : Scope) (at : Place) (c a b : ExpressionTree) (t x y : Constant) → Some t ≡ constant_of E c → Some x ≡ constant_of E a → Some y ≡ constant_of E b → Some (chosen t x y) ≡ constant_of E (tree.conditional at c a b)
constant-conditional E at c a b t x y h k l =
    three_constants (is_constant E c) (is_constant E a) (is_constant E b) chosen (made (kind_of E c) (value_of E c)) (made (kind_of E a) (value_of E a)) (made (kind_of E b) (value_of E b)) _ t x y
    (ap (λ n. record { kind = arm_kind (kind_of E a) (kind_of E b); value = n }) (chosen_value (kind_of E c) (kind_of E a) (kind_of E b) (arm_kind (kind_of E a) (kind_of E b)) (value_of E c) (value_of E a) (value_of E b))) h k l

-- ---- where nothing is refused in a constant expression, it is constant

pub left_empty : (xs ys : List Broken) → xs ++ ys ≡ [] → xs ≡ []
left_empty [] ys h = refl
left_empty (x ∷ xs) ys h = absurd (cc)

pub right_empty : (xs ys : List Broken) → xs ++ ys ≡ [] → ys ≡ []
right_empty [] ys h = h
right_empty (x ∷ xs) ys h = absurd (cc)

pub name_constant : (p : Place) (o : Option Entity) → wrong_entity scope.is_constant p o ≡ [] → is_constant_name o ≡ true
name_constant p None h = absurd (cc)
name_constant p (Some (entity.Constant k n)) h = refl
name_constant p (Some (entity.Variable f k n)) h = absurd (cc)
name_constant p (Some (entity.Array f k n)) h = absurd (cc)
name_constant p (Some (entity.Memory f k n)) h = absurd (cc)
name_constant p (Some (entity.Stream f k n)) h = absurd (cc)
name_constant p (Some (entity.Channel k n)) h = absurd (cc)
name_constant p (Some (entity.Task task_number)) h = absurd (cc)

pub no_name : (p : Place) (o : Option Entity) → wrong_entity (λ s. false) p o ≡ [] → ⊥
no_name p None h = cc
no_name p (Some s) h = cc

pub all_constant : (E : Scope) (e : ExpressionTree) → constant_faults E e ≡ [] → is_constant E e ≡ true
all_constant E (tree.literal k n) h = refl
all_constant E (tree.boolean b) h = refl
all_constant E (tree.variable x) h = name_constant x.place (entity_of x.text E) h
all_constant E (tree.element x e) h = absurd (no_name x.place (entity_of x.text E) h)
all_constant E (tree.call s m es) h = absurd (no_name s.place (entity_of s.text E) h)
all_constant E tree.nullptr h = refl
all_constant E (tree.construct k e) h = all_constant E e h
all_constant E (tree.static_cast k e) h = all_constant E e h
all_constant E (tree.cast k e) h = all_constant E e h
all_constant E (tree.parenthesized e) h = all_constant E e h
all_constant E (tree.prefix o at e) h = all_constant E e h
all_constant E (tree.binary o at a b) h =
    let before = left_empty (constant_faults E a ++ divisor_faults E (divides o) at b) (constant_faults E b) h in
    and_true (is_constant E a) (is_constant E b)
    (all_constant E a (left_empty (constant_faults E a) (divisor_faults E (divides o) at b) before))
    (all_constant E b (right_empty (constant_faults E a ++ divisor_faults E (divides o) at b) (constant_faults E b) h))
all_constant E (tree.conditional at c a b) h =
    let before = left_empty (constant_faults E c ++ constant_faults E a) (constant_faults E b) h in
    and_true (is_constant E c && is_constant E a) (is_constant E b)
    (and_true (is_constant E c) (is_constant E a) (all_constant E c (left_empty (constant_faults E c) (constant_faults E a) before)) (all_constant E a (right_empty (constant_faults E c) (constant_faults E a) before)))
    (all_constant E b (right_empty (constant_faults E c ++ constant_faults E a) (constant_faults E b) h))

some_or_none : (b : Bool) (x : Constant) → b ≡ true → None ≡ (if b then Some x else None) → ⊥
some_or_none true x h k = cc
some_or_none false x h k = cc

pub constant-there : (E : Scope) (e : ExpressionTree) → constant_faults E e ≡ [] → None ≡ constant_of E e → ⊥
constant-there E e h k = some_or_none (is_constant E e) (made (kind_of E e) (value_of E e)) (all_constant E e h) k
