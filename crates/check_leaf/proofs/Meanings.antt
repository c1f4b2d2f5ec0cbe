-- What an expression without faults means is a value of its kind.
use Rattle.std.proofs.Common.{◌≡◌, ◌<◌, ℕ, List, [], ◌∷◌, ◌++◌, Bool, true, false, not, ◌&&◌, Some, None, refl}
use Rattle.std.specs.Prelude.{Option, IfSome, slice_get, if◌then◌else◌, nat_lt, ◌||◌}
use Rattle.std.proofs.lemmas.Nat.{pow_pos, mod_below}
use Rattle.std.proofs.lemmas.Bool.{ltb-true}
use Rattle.tapa_base.specs.declared.kind.Kind.{Kind}
use Rattle.tapa_base.specs.declared.kind.Kind.TheVariants as kind
use Rattle.tapa_base.specs.declared.op.Op.{Op}
use Rattle.tapa_base.specs.declared.op.Op.TheVariants as op
use Rattle.tapa_base.specs.declared.text.Place.{Place}
use Rattle.tapa_base.specs.Kinds.{bits_of, promoted, joined, values_of}
use Rattle.tapa_syntax.specs.declared.tree.Name.{Name}
use Rattle.tapa_syntax.specs.declared.tree.PrefixOperator.{PrefixOperator}
use Rattle.tapa_syntax.specs.declared.tree.PrefixOperator.TheVariants as prefix
use Rattle.tapa_syntax.specs.declared.tree.BinaryOperator.{BinaryOperator}
use Rattle.tapa_syntax.specs.declared.tree.BinaryOperator.TheVariants.{Value, LogicalAnd, LogicalOr}
use Rattle.tapa_syntax.specs.ArrayUse.{In}
use Rattle.tapa_syntax.specs.Trees as tree
use Rattle.tapa_syntax.specs.Trees.{ExpressionTree}
use Rattle.tapa_syntax.specs.Flat.{FlatExpression, FlatLeaf}
use Rattle.check_scope.specs.declared.fault.Broken.{Broken}
use Rattle.check_scope.specs.declared.entity.Entity.{Entity}
use Rattle.check_scope.specs.declared.entity.Entity.TheVariants as entity
use Rattle.check_scope.specs.Faults.{wrong_entity, where_so, fault}
use Rattle.check_scope.specs.declared.fault.CheckCode.TheVariants.{C8, C9}
use Rattle.check_scope.specs.Scopes.{Block, Scope, in_block, first_of, entity_of, kind_of_entity, number_of, is_scalar, is_memory, has_cells}
use Rattle.check_expression.specs.Expressions.{Method, reads, peeks, tests_end, writes, opens, closes, method_of, listed, call_faults, no_value, call_kind, prefix_kind, binary_kind, arm_kind, kind_of, as_kind, named_value, cell_value, called_value, operated, binary_value, prefix_value, value_of, is_constant_name, is_constant, constant_value, divides, divisor_faults, is_logical, faults_of}
use Rattle.tapa_syntax.proofs.Values.{bit_fits}
use Rattle.check_leaf.proofs.Flats.{IsEnd, IsArrayOf, IsValue, IsFlatConstant, MayDivideBy}
use Rattle.check_leaf.proofs.Conversions.{cast_value, cast_constant, cast_divides}
use Rattle.tapa_base.proofs.Tests.{both_true}
use Rattle.check_expression.proofs.Constants.{left_empty, right_empty}

-- ---- no faults

pub not_so : (b : Bool) (x : Broken) (xs : List Broken) → where_so (not b) (x ∷ xs) ≡ [] → b ≡ true
not_so true x xs h = refl
not_so false x xs h = absurd (cc)

pub not_one : (x : Broken) (xs : List Broken) → x ∷ xs ≡ [] → ⊥
not_one x xs h = cc

-- ---- what names stand for

-- an entity that the leaf has, where these arrays are cleared
abbrev pub IsKnown : FlatLeaf → List ℕ → Entity → Type 0
IsKnown W S (entity.Constant k n) = n < values_of k
IsKnown W S (entity.Variable free k n) = slice_get W.vars n ≡ Some k
IsKnown W S (entity.Array free k n) = In n S × IsArrayOf W n k
IsKnown W S (entity.Memory free k n) = slice_get W.memories n ≡ Some k
IsKnown W S (entity.Stream b k n) = IsEnd W b n k
IsKnown W S (entity.Channel k n) = Unit {0}
IsKnown W S (entity.Task task_number) = Unit {0}

abbrev pub KnownBlock : FlatLeaf → List ℕ → Block → Type 0
KnownBlock W S [] = Unit {0}
KnownBlock W S (d ∷ rest) = IsKnown W S d.1 × KnownBlock W S rest

abbrev pub KnownScope : FlatLeaf → List ℕ → Scope → Type 0
KnownScope W S [] = Unit {0}
KnownScope W S (b ∷ rest) = KnownBlock W S b × KnownScope W S rest

chosen : (b : Bool) (W : FlatLeaf) (S : List ℕ) (s : Entity) (o : Option Entity) → IsKnown W S s → IfSome o (IsKnown W S) → IfSome (if b then Some s else o) (IsKnown W S)
chosen true W S s o h k = h
chosen false W S s o h k = k

block_at : (W : FlatLeaf) (S : List ℕ) (x : List ℕ) (b : Block) → KnownBlock W S b → IfSome (in_block x b) (IsKnown W S)
block_at W S x [] h = tt
block_at W S x (d ∷ rest) (h, k) = chosen _ W S d.1 (in_block x rest) h (block_at W S x rest k)

first_at : (W : FlatLeaf) (S : List ℕ) (a b : Option Entity) → IfSome a (IsKnown W S) → IfSome b (IsKnown W S) → IfSome (first_of a b) (IsKnown W S)
first_at W S (Some s) b h k = h
first_at W S None b h k = k

pub known_at : (W : FlatLeaf) (S : List ℕ) (x : List ℕ) (E : Scope) → KnownScope W S E → IfSome (entity_of x E) (IsKnown W S)
known_at W S x [] h = tt
known_at W S x (b ∷ rest) (h, k) = first_at W S (entity_of x rest) (in_block x b) (known_at W S x rest k) (block_at W S x b h)

-- ---- names as operands

named_good : (W : FlatLeaf) (S : List ℕ) (p : Place) (o : Option Entity) → IfSome o (IsKnown W S) → wrong_entity is_scalar p o ≡ [] → IsValue W S (named_value o) (kind_of_entity o)
named_good W S p None k h = absurd (cc)
named_good W S p (Some (entity.Constant j n)) k h = (refl, k)
named_good W S p (Some (entity.Variable f j n)) k h = k
named_good W S p (Some (entity.Array f j n)) k h = absurd (cc)
named_good W S p (Some (entity.Memory f j n)) k h = absurd (cc)
named_good W S p (Some (entity.Stream f j n)) k h = absurd (cc)
named_good W S p (Some (entity.Channel j n)) k h = absurd (cc)
named_good W S p (Some (entity.Task task_number)) k h = absurd (cc)

element_good : (W : FlatLeaf) (S : List ℕ) (p : Place) (o : Option Entity) (i : FlatExpression) → IfSome o (IsKnown W S) → wrong_entity has_cells p o ≡ [] → IsValue W S i kind.U64 → IsValue W S (cell_value o i) (kind_of_entity o)
element_good W S p None i k h g = absurd (cc)
element_good W S p (Some (entity.Constant j n)) i k h g = absurd (cc)
element_good W S p (Some (entity.Variable f j n)) i k h g = absurd (cc)
element_good W S p (Some (entity.Array f j n)) i k h g = (k.0, k.1, g)
element_good W S p (Some (entity.Memory f j n)) i k h g = (k, g)
element_good W S p (Some (entity.Stream f j n)) i k h g = absurd (cc)
element_good W S p (Some (entity.Channel j n)) i k h g = absurd (cc)
element_good W S p (Some (entity.Task task_number)) i k h g = absurd (cc)

called_good : (W : FlatLeaf) (S : List ℕ) (o : Option Entity) (m : Option Method) (s at : Name) → IfSome o (IsKnown W S) → call_faults o m s at ≡ [] → no_value m at ≡ [] → IsValue W S (called_value (number_of o) m) (call_kind (kind_of_entity o) m)
called_good W S (Some (entity.Stream b j n)) None s at k h g = absurd (cc)
called_good W S (Some (entity.Stream false j n)) (Some reads) s at k h g = k
called_good W S (Some (entity.Stream false j n)) (Some peeks) s at k h g = k
called_good W S (Some (entity.Stream false j n)) (Some tests_end) s at k h g = (j, k, refl)
called_good W S (Some (entity.Stream true j n)) (Some reads) s at k h g = absurd (cc)
called_good W S (Some (entity.Stream true j n)) (Some peeks) s at k h g = absurd (cc)
called_good W S (Some (entity.Stream true j n)) (Some tests_end) s at k h g = absurd (cc)
called_good W S (Some (entity.Stream b j n)) (Some (writes e)) s at k h g = absurd (cc)
called_good W S (Some (entity.Stream b j n)) (Some opens) s at k h g = absurd (cc)
called_good W S (Some (entity.Stream b j n)) (Some closes) s at k h g = absurd (cc)
called_good W S None m s at k h g = absurd (cc)
called_good W S (Some (entity.Constant j n)) m s at k h g = absurd (cc)
called_good W S (Some (entity.Variable f j n)) m s at k h g = absurd (cc)
called_good W S (Some (entity.Array f j n)) m s at k h g = absurd (cc)
called_good W S (Some (entity.Memory f j n)) m s at k h g = absurd (cc)
called_good W S (Some (entity.Channel j n)) m s at k h g = absurd (cc)
called_good W S (Some (entity.Task task_number)) m s at k h g = absurd (cc)

-- ---- constants

named_constant : (o : Option Entity) → is_constant_name o ≡ true → IsFlatConstant (named_value o)
named_constant (Some (entity.Constant k n)) h = tt
named_constant None h = absurd (cc)
named_constant (Some (entity.Variable f k n)) h = absurd (cc)
named_constant (Some (entity.Array f k n)) h = absurd (cc)
named_constant (Some (entity.Memory f k n)) h = absurd (cc)
named_constant (Some (entity.Stream f k n)) h = absurd (cc)
named_constant (Some (entity.Channel k n)) h = absurd (cc)
named_constant (Some (entity.Task task_number)) h = absurd (cc)

prefix_constant : (o : PrefixOperator) (k : Kind) (e : FlatExpression) → IsFlatConstant e → IsFlatConstant (prefix_value o k e)
prefix_constant prefix.Negate k e c = (tt, cast_constant k (promoted k) e c)
prefix_constant prefix.Plus k e c = cast_constant k (promoted k) e c
prefix_constant prefix.Complement k e c = cast_constant k (promoted k) e c
prefix_constant prefix.Not k e c = cast_constant k kind.Bool e c

operated_constant : (o : Op) (j k : Kind) (a b : FlatExpression) → IsFlatConstant a → IsFlatConstant b → IsFlatConstant (operated o j k a b)
operated_constant op.Shl j k a b x y = (cast_constant j (promoted j) a x, cast_constant k kind.U64 b y)
operated_constant op.Shr j k a b x y = (cast_constant j (promoted j) a x, cast_constant k kind.U64 b y)
operated_constant _ j k a b x y = (cast_constant j (joined j k) a x, cast_constant k (joined j k) b y)

binary_constant : (o : BinaryOperator) (j k : Kind) (a b : FlatExpression) → IsFlatConstant a → IsFlatConstant b → IsFlatConstant (binary_value o j k a b)
binary_constant (Value o) j k a b x y = operated_constant o j k a b x y
binary_constant LogicalAnd j k a b x y = (cast_constant j kind.Bool a x, cast_constant k kind.Bool b y)
binary_constant LogicalOr j k a b x y = (cast_constant j kind.Bool a x, cast_constant k kind.Bool b y)

pub meaning_constant : (E : Scope) (e : ExpressionTree) → is_constant E e ≡ true → IsFlatConstant (value_of E e)
meaning_constant E (tree.literal k n) h = tt
meaning_constant E (tree.boolean b) h = tt
meaning_constant E (tree.variable x) h = named_constant (entity_of x.text E) h
meaning_constant E (tree.element x e) h = absurd (cc)
meaning_constant E (tree.call s m es) h = absurd (cc)
meaning_constant E tree.nullptr h = tt
meaning_constant E (tree.construct k e) h = cast_constant (kind_of E e) k (value_of E e) (meaning_constant E e h)
meaning_constant E (tree.static_cast k e) h = cast_constant (kind_of E e) k (value_of E e) (meaning_constant E e h)
meaning_constant E (tree.cast k e) h = cast_constant (kind_of E e) k (value_of E e) (meaning_constant E e h)
meaning_constant E (tree.parenthesized e) h = meaning_constant E e h
meaning_constant E (tree.prefix o at e) h = prefix_constant o (kind_of E e) (value_of E e) (meaning_constant E e h)
meaning_constant E (tree.binary o at a b) h =
    let p = both_true (is_constant E a) (is_constant E b) h in
    binary_constant o (kind_of E a) (kind_of E b) (value_of E a) (value_of E b) (meaning_constant E a p.0) (meaning_constant E b p.1)
meaning_constant E (tree.conditional at c a b) h =
    let p = both_true (is_constant E c && is_constant E a) (is_constant E b) h in
    let q = both_true (is_constant E c) (is_constant E a) p.0 in
    let r = arm_kind (kind_of E a) (kind_of E b) in
    (cast_constant (kind_of E c) kind.Bool (value_of E c) (meaning_constant E c q.0), cast_constant (kind_of E a) r (value_of E a) (meaning_constant E a q.1), cast_constant (kind_of E b) r (value_of E b) (meaning_constant E b p.1))

-- ---- operators

a_divisor : (E : Scope) (at : Place) (e : ExpressionTree) → divisor_faults E true at e ≡ [] → IsFlatConstant (value_of E e) × (0 < constant_value (value_of E e))
a_divisor E at e h =
    let p = both_true (is_constant E e) (nat_lt 0 (constant_value (value_of E e))) (not_so (is_constant E e && nat_lt 0 (constant_value (value_of E e))) (record { code = C9; place = at; limit = None }) [] h) in
    (meaning_constant E e p.0, ltb-true 0 (constant_value (value_of E e)) p.1)

-- where a divisor has no fault, the operator may divide by it
pub divisor_good : (E : Scope) (o : Op) (at : Place) (e : ExpressionTree) → divisor_faults E (divides (Value o)) at e ≡ [] → MayDivideBy o (value_of E e)
divisor_good E op.Div at e h = a_divisor E at e h
divisor_good E op.Rem at e h = a_divisor E at e h
divisor_good E _ at e h = tt

pub operated_good : (W : FlatLeaf) (S : List ℕ) (o : Op) (j k : Kind) (a b : FlatExpression) → IsValue W S a j → IsValue W S b k → MayDivideBy o b → IsValue W S (operated o j k a b) (binary_kind (Value o) j k)
operated_good W S op.Shl j k a b x y d = (refl, cast_value W S j (promoted j) a x, cast_value W S k kind.U64 b y, tt)
operated_good W S op.Shr j k a b x y d = (refl, cast_value W S j (promoted j) a x, cast_value W S k kind.U64 b y, tt)
operated_good W S o j k a b x y d = (refl, cast_value W S j (joined j k) a x, cast_value W S k (joined j k) b y, cast_divides W S o j k b y d)

binary_good : (W : FlatLeaf) (S : List ℕ) (E : Scope) (o : BinaryOperator) (at : Place) (j : Kind) (a : FlatExpression) (b : ExpressionTree) → IsValue W S a j → IsValue W S (value_of E b) (kind_of E b) → divisor_faults E (divides o) at b ≡ [] → IsValue W S (binary_value o j (kind_of E b) a (value_of E b)) (binary_kind o j (kind_of E b))
binary_good W S E (Value o) at j a b x y h = operated_good W S o j (kind_of E b) a (value_of E b) x y (divisor_good E o at b h)
binary_good W S E LogicalAnd at j a b x y h = (refl, cast_value W S j kind.Bool a x, cast_value W S (kind_of E b) kind.Bool (value_of E b) y)
binary_good W S E LogicalOr at j a b x y h = (refl, cast_value W S j kind.Bool a x, cast_value W S (kind_of E b) kind.Bool (value_of E b) y)

prefix_good : (W : FlatLeaf) (S : List ℕ) (o : PrefixOperator) (k : Kind) (e : FlatExpression) → IsValue W S e k → IsValue W S (prefix_value o k e) (prefix_kind o k)
prefix_good W S prefix.Negate k e g = (refl, (refl, pow_pos (bits_of (promoted k))), cast_value W S k (promoted k) e g, tt)
prefix_good W S prefix.Plus k e g = cast_value W S k (promoted k) e g
prefix_good W S prefix.Complement k e g = (refl, cast_value W S k (promoted k) e g)
prefix_good W S prefix.Not k e g = (refl, cast_value W S k kind.Bool e g)

-- ---- expressions

pub meaning_good : (W : FlatLeaf) (S : List ℕ) (E : Scope) → KnownScope W S E → (c : Bool) (e : ExpressionTree) → faults_of E c e ≡ [] → IsValue W S (value_of E e) (kind_of E e)
meaning_good W S E i c (tree.literal k n) h = (refl, mod_below n (values_of k) (pow_pos (bits_of k)))
meaning_good W S E i c (tree.boolean b) h = (refl, bit_fits b)
meaning_good W S E i c (tree.variable x) h = named_good W S x.place (entity_of x.text E) (known_at W S x.text E i) h
meaning_good W S E i c (tree.element x e) h =
    let named = wrong_entity has_cells x.place (entity_of x.text E) in
    let place = where_so (c && is_memory (entity_of x.text E)) (fault C8 x.place) in
    let p = left_empty (named ++ place) (faults_of E c e) h in
    element_good W S x.place (entity_of x.text E) (as_kind (kind_of E e) kind.U64 (value_of E e)) (known_at W S x.text E i) (left_empty named place p)
    (cast_value W S (kind_of E e) kind.U64 (value_of E e) (meaning_good W S E i c e (right_empty (named ++ place) (faults_of E c e) h)))
meaning_good W S E i c (tree.call s m es) h =
    let o = entity_of s.text E in
    let method = method_of m.text (listed es) in
    let place = where_so c (fault C8 m.place) in
    let p = left_empty (call_faults o method s m ++ no_value method m) place h in
    called_good W S o method s m (known_at W S s.text E i) (left_empty (call_faults o method s m) (no_value method m) p) (right_empty (call_faults o method s m) (no_value method m) p)
meaning_good W S E i c tree.nullptr h = (refl, pow_pos 64)
meaning_good W S E i c (tree.construct k e) h = cast_value W S (kind_of E e) k (value_of E e) (meaning_good W S E i c e h)
meaning_good W S E i c (tree.static_cast k e) h = cast_value W S (kind_of E e) k (value_of E e) (meaning_good W S E i c e h)
meaning_good W S E i c (tree.cast k e) h = cast_value W S (kind_of E e) k (value_of E e) (meaning_good W S E i c e h)
meaning_good W S E i c (tree.parenthesized e) h = meaning_good W S E i c e h
meaning_good W S E i c (tree.prefix o at e) h = prefix_good W S o (kind_of E e) (value_of E e) (meaning_good W S E i c e h)
meaning_good W S E i c (tree.binary o at a b) h =
    let d = divisor_faults E (divides o) at b in
    let p = left_empty (faults_of E c a ++ d) (faults_of E (c || is_logical o) b) h in
    binary_good W S E o at (kind_of E a) (value_of E a) b
    (meaning_good W S E i c a (left_empty (faults_of E c a) d p))
    (meaning_good W S E i (c || is_logical o) b (right_empty (faults_of E c a ++ d) (faults_of E (c || is_logical o) b) h))
    (right_empty (faults_of E c a) d p)
meaning_good W S E i c (tree.conditional at t a b) h =
    let p = left_empty (faults_of E c t ++ faults_of E true a) (faults_of E true b) h in
    let r = arm_kind (kind_of E a) (kind_of E b) in (
      cast_value W S (kind_of E t) kind.Bool (value_of E t) (meaning_good W S E i c t (left_empty (faults_of E c t) (faults_of E true a) p)),
      cast_value W S (kind_of E a) r (value_of E a) (meaning_good W S E i true a (right_empty (faults_of E c t) (faults_of E true a) p)),
      cast_value W S (kind_of E b) r (value_of E b) (meaning_good W S E i true b (right_empty (faults_of E c t ++ faults_of E true a) (faults_of E true b) h)),
    )
