-- What an action without faults means is code of a leaf.
use Rattle.std.proofs.Common.{◌≡◌, ◌<◌, ℕ, List, [], ◌∷◌, ◌++◌, map, Bool, true, false, ◌&&◌, Some, None, refl, sym, subst, lit<}
use Rattle.std.specs.Prelude.{Option, IfSome, slice_get}
use Rattle.std.specs.List.{flat_map}
use Rattle.tapa_base.specs.declared.kind.Kind.{Kind}
use Rattle.tapa_base.specs.declared.kind.Kind.TheVariants as kind
use Rattle.tapa_base.specs.declared.op.Op.{Op}
use Rattle.tapa_base.specs.declared.text.Place.{Place}
use Rattle.tapa_base.specs.Kinds.{promoted, values_of}
use Rattle.tapa_syntax.specs.declared.tree.Name.{Name}
use Rattle.tapa_syntax.specs.declared.tree.StepOperator.{StepOperator}
use Rattle.tapa_syntax.specs.declared.tree.StepOperator.TheVariants.{Increment, Decrement}
use Rattle.tapa_syntax.specs.declared.tree.AssignmentOperator.{AssignmentOperator}
use Rattle.tapa_syntax.specs.declared.tree.AssignmentOperator.TheVariants.{Plain, Compound}
use Rattle.tapa_syntax.specs.declared.tree.BinaryOperator.TheVariants.{Value}
use Rattle.tapa_syntax.specs.ArrayUse.{In}
use Rattle.tapa_syntax.specs.Typed.{right_kind}
use Rattle.tapa_syntax.specs.Trees as tree
use Rattle.tapa_syntax.specs.Trees.{ExpressionTree, PlaceTree, ActionTree}
use Rattle.tapa_syntax.specs.Flat as flat
use Rattle.tapa_syntax.specs.Flat.{FlatExpression, literal, variable, FlatStatement, FlatLeaf}
use Rattle.check_scope.specs.declared.fault.CheckCode.TheVariants.{C3}
use Rattle.check_scope.specs.declared.entity.Entity.{Entity}
use Rattle.check_scope.specs.declared.entity.Entity.TheVariants as entity
use Rattle.check_scope.specs.Faults.{wrong_entity, name_faults, where_so, fault}
use Rattle.check_scope.specs.Scopes.{Scope, entity_of, kind_of_entity, number_of, is_free_variable, has_free_cells, is_output, is_input}
use Rattle.check_expression.specs.Expressions.{Method, reads, peeks, tests_end, writes, opens, closes, method_of, call_faults, kind_of, value_of, wanted, binary_kind, operated, operated_kind, faults_of, divisor_faults}
use Rattle.check_leaf.specs.Statements.{Target, in_variable, in_cell, in_word, element_target, target_of, set_target, change_target, read_target, assigned, kind_of_target, step_op, stepped, is_increment, is_bool, place_kind, target_faults, index_faults, changed_faults, place_faults, assignment_divides, given_faults, called, action_faults, action_code}
use Rattle.check_leaf.proofs.Flats.{IsEnd, IsArrayOf, IsValue, MayDivideBy, IsStep, IsCode, IsStraight, AreStraight, clears}
use Rattle.check_leaf.proofs.Conversions.{cast_value, cast_divides}
use Rattle.check_leaf.proofs.Meanings.{IsKnown, KnownScope, known_at, meaning_good, divisor_good, operated_good}
use Rattle.check_expression.proofs.Constants.{left_empty, right_empty}

-- ---- steps that clear nothing and go on

pub record IsAct (W : FlatLeaf) (S : List ℕ) (s : FlatStatement) : Type 0 where
  pub step : IsStep W S s
  pub straight : IsStraight s
  pub clear : clears s S ≡ S

abbrev pub AreActs : FlatLeaf → List ℕ → List FlatStatement → Type 0
AreActs W S [] = Unit {0}
AreActs W S (s ∷ rest) = IsAct W S s × AreActs W S rest

pub acts_code : (W : FlatLeaf) (S : List ℕ) (xs : List FlatStatement) → AreActs W S xs → IsCode W S xs
acts_code W S [] g = tt
acts_code W S (s ∷ xs) (a, g) = (a.step, subst (λ T. IsCode W T xs) (sym a.clear) (acts_code W S xs g))

pub acts_straight : (W : FlatLeaf) (S : List ℕ) (xs : List FlatStatement) → AreActs W S xs → AreStraight xs
acts_straight W S [] g = tt
acts_straight W S (s ∷ xs) (a, g) = (a.straight, acts_straight W S xs g)

-- ---- targets

abbrev pub IsTarget : FlatLeaf → List ℕ → Target → Type 0
IsTarget W S (in_variable k n) = slice_get W.vars n ≡ Some k
IsTarget W S (in_cell k n i) = In n S × IsArrayOf W n k × IsValue W S i kind.U64
IsTarget W S (in_word k n i) = (slice_get W.memories n ≡ Some k) × IsValue W S i kind.U64

set_good : (W : FlatLeaf) (S : List ℕ) (t : Target) (k : Kind) (e : FlatExpression) → IsTarget W S t → IsValue W S e k → IsAct W S (set_target t k e)
set_good W S (in_variable j n) k e h g = record { step = (j, h, cast_value W S k j e g); straight = tt; clear = refl }
set_good W S (in_cell j n i) k e (a, h, x) g = record { step = (a, x, (j, h, cast_value W S k j e g)); straight = tt; clear = refl }
set_good W S (in_word j n i) k e (h, x) g = record { step = (x, (j, h, cast_value W S k j e g)); straight = tt; clear = refl }

change_good : (W : FlatLeaf) (S : List ℕ) (t : Target) (o : Op) (k : Kind) (e : FlatExpression) → IsTarget W S t → IsValue W S e k → MayDivideBy o e → IsAct W S (change_target t o k e)
change_good W S (in_variable j n) o k e h g d = record {
  step = (j, h, cast_value W S (binary_kind (Value o) j k) j (operated o j k (variable n) e) (operated_good W S o j k (variable n) e h g d));
  straight = tt;
  clear = refl;
}
change_good W S (in_cell j n i) o k e (a, h, x) g d = record {
  step = (a, x, cast_value W S k (right_kind o (operated_kind o j k)) e g, cast_divides W S o j k e g d);
  straight = tt;
  clear = refl;
}
change_good W S (in_word j n i) o k e (h, x) g d = record {
  step = ((j, h), x, cast_value W S k (right_kind o (operated_kind o j k)) e g, cast_divides W S o j k e g d);
  straight = tt;
  clear = refl;
}

read_good : (W : FlatLeaf) (S : List ℕ) (s : ℕ) (j : Kind) (t : Target) → IsEnd W false s j → IsTarget W S t → IsAct W S (read_target s t)
read_good W S s j (in_variable k n) e h = record { step = (j, e, (k, h)); straight = tt; clear = refl }
read_good W S s j (in_cell k n i) e (a, h, x) = record { step = (j, e, a, x); straight = tt; clear = refl }
read_good W S s j (in_word k n i) e (h, x) = record { step = (j, e, (k, h), x); straight = tt; clear = refl }

one_fits : (k : Kind) → 1 < values_of (promoted k)
one_fits kind.Bool = lit< tt
one_fits kind.I8 = lit< tt
one_fits kind.U8 = lit< tt
one_fits kind.I16 = lit< tt
one_fits kind.U16 = lit< tt
one_fits kind.I32 = lit< tt
one_fits kind.U32 = lit< tt
one_fits kind.I64 = lit< tt
one_fits kind.U64 = lit< tt

step_divides : (o : StepOperator) (e : FlatExpression) → MayDivideBy (step_op o) e
step_divides Increment e = tt
step_divides Decrement e = tt

step_good : (W : FlatLeaf) (S : List ℕ) (t : Target) (o : StepOperator) → IsTarget W S t → IsAct W S (stepped t o)
step_good W S t o h =
    let k = promoted (kind_of_target t) in
    change_good W S t (step_op o) k (literal k 1) h (refl, one_fits (kind_of_target t)) (step_divides o (literal k 1))

assign_good : (W : FlatLeaf) (S : List ℕ) (E : Scope) (t : Target) (o : AssignmentOperator) (at : Place) (e : ExpressionTree) → IsTarget W S t → IsValue W S (value_of E e) (kind_of E e) → divisor_faults E (assignment_divides o) at e ≡ [] → IsAct W S (assigned t o (kind_of E e) (value_of E e))
assign_good W S E t Plain at e h g d = set_good W S t (kind_of E e) (value_of E e) h g
assign_good W S E t (Compound o) at e h g d = change_good W S t o (kind_of E e) (value_of E e) h g (divisor_good E o at e d)

-- ---- places that are assigned

free_variable : (W : FlatLeaf) (S : List ℕ) (p : Place) (o : Option Entity) → IfSome o (IsKnown W S) → wrong_entity is_free_variable p o ≡ [] → slice_get W.vars (number_of o) ≡ Some (kind_of_entity o)
free_variable W S p (Some (entity.Variable f j n)) k h = k
free_variable W S p None k h = absurd (cc)
free_variable W S p (Some (entity.Constant j n)) k h = absurd (cc)
free_variable W S p (Some (entity.Array f j n)) k h = absurd (cc)
free_variable W S p (Some (entity.Memory f j n)) k h = absurd (cc)
free_variable W S p (Some (entity.Stream f j n)) k h = absurd (cc)
free_variable W S p (Some (entity.Channel j n)) k h = absurd (cc)
free_variable W S p (Some (entity.Task task_number)) k h = absurd (cc)

free_cells : (W : FlatLeaf) (S : List ℕ) (p : Place) (o : Option Entity) (i : FlatExpression) → IfSome o (IsKnown W S) → wrong_entity has_free_cells p o ≡ [] → IsValue W S i kind.U64 → IsTarget W S (element_target o i)
free_cells W S p (Some (entity.Array f j n)) i k h g = (k.0, k.1, g)
free_cells W S p (Some (entity.Memory f j n)) i k h g = (k, g)
free_cells W S p None i k h g = absurd (cc)
free_cells W S p (Some (entity.Constant j n)) i k h g = absurd (cc)
free_cells W S p (Some (entity.Variable f j n)) i k h g = absurd (cc)
free_cells W S p (Some (entity.Stream f j n)) i k h g = absurd (cc)
free_cells W S p (Some (entity.Channel j n)) i k h g = absurd (cc)
free_cells W S p (Some (entity.Task task_number)) i k h g = absurd (cc)

pub target_good : (W : FlatLeaf) (S : List ℕ) (E : Scope) → KnownScope W S E → (b : Bool) (p : PlaceTree) → changed_faults E b p ≡ [] → IsTarget W S (target_of E p)
target_good W S E i b (tree.variable_place x) h =
    let p = tree.variable_place x in
    let q = where_so (b && is_bool (place_kind E p)) (fault C3 x.place) in
    free_variable W S x.place (entity_of x.text E) (known_at W S x.text E i) (left_empty (target_faults E p) q (left_empty (target_faults E p ++ q) (index_faults E p) h))
target_good W S E i b (tree.element_place x e) h =
    let p = tree.element_place x e in
    let q = where_so (b && is_bool (place_kind E p)) (fault C3 x.place) in
    free_cells W S x.place (entity_of x.text E) (wanted E kind.U64 e) (known_at W S x.text E i)
    (left_empty (target_faults E p) q (left_empty (target_faults E p ++ q) (index_faults E p) h))
    (cast_value W S (kind_of E e) kind.U64 (value_of E e) (meaning_good W S E i false e (right_empty (target_faults E p ++ q) (index_faults E p) h)))

-- ---- streams

an_input : (W : FlatLeaf) (S : List ℕ) (p : Place) (o : Option Entity) → IfSome o (IsKnown W S) → wrong_entity is_input p o ≡ [] → IsEnd W false (number_of o) (kind_of_entity o)
an_input W S p (Some (entity.Stream false j n)) k h = k
an_input W S p (Some (entity.Stream true j n)) k h = absurd (cc)
an_input W S p None k h = absurd (cc)
an_input W S p (Some (entity.Constant j n)) k h = absurd (cc)
an_input W S p (Some (entity.Variable f j n)) k h = absurd (cc)
an_input W S p (Some (entity.Array f j n)) k h = absurd (cc)
an_input W S p (Some (entity.Memory f j n)) k h = absurd (cc)
an_input W S p (Some (entity.Channel j n)) k h = absurd (cc)
an_input W S p (Some (entity.Task task_number)) k h = absurd (cc)

pub input_good : (W : FlatLeaf) (S : List ℕ) (E : Scope) → KnownScope W S E → (x : Name) → name_faults E is_input x ≡ [] → IsEnd W false (number_of (entity_of x.text E)) (kind_of_entity (entity_of x.text E))
input_good W S E i x h = an_input W S x.place (entity_of x.text E) (known_at W S x.text E i) h

an_output : (W : FlatLeaf) (S : List ℕ) (p : Place) (o : Option Entity) → IfSome o (IsKnown W S) → wrong_entity is_output p o ≡ [] → IsEnd W true (number_of o) (kind_of_entity o)
an_output W S p (Some (entity.Stream true j n)) k h = k
an_output W S p (Some (entity.Stream false j n)) k h = absurd (cc)
an_output W S p None k h = absurd (cc)
an_output W S p (Some (entity.Constant j n)) k h = absurd (cc)
an_output W S p (Some (entity.Variable f j n)) k h = absurd (cc)
an_output W S p (Some (entity.Array f j n)) k h = absurd (cc)
an_output W S p (Some (entity.Memory f j n)) k h = absurd (cc)
an_output W S p (Some (entity.Channel j n)) k h = absurd (cc)
an_output W S p (Some (entity.Task task_number)) k h = absurd (cc)

written : (W : FlatLeaf) (S : List ℕ) (E : Scope) → KnownScope W S E → (s : ℕ) (k : Kind) → IsEnd W true s k → (es : List ExpressionTree) → flat_map (faults_of E false) es ≡ [] → AreActs W S (map (λ e. flat.write s (wanted E k e)) es)
written W S E i s k h [] g = tt
written W S E i s k h (e ∷ es) g =
    let v = meaning_good W S E i false e (left_empty (faults_of E false e) (flat_map (faults_of E false) es) g) in
    (record { step = (k, h, cast_value W S (kind_of E e) k (value_of E e) v); straight = tt; clear = refl }, written W S E i s k h es (right_empty (faults_of E false e) (flat_map (faults_of E false) es) g))

read_places : (W : FlatLeaf) (S : List ℕ) (E : Scope) → KnownScope W S E → (s : ℕ) (k : Kind) → IsEnd W false s k → (ps : List PlaceTree) → flat_map (place_faults E) ps ≡ [] → AreActs W S (map (λ p. read_target s (target_of E p)) ps)
read_places W S E i s k h [] g = tt
read_places W S E i s k h (p ∷ ps) g =
    let t = target_good W S E i false p (left_empty (place_faults E p) (flat_map (place_faults E) ps) g) in
    (read_good W S s k (target_of E p) h t, read_places W S E i s k h ps (right_empty (place_faults E p) (flat_map (place_faults E) ps) g))

call_good : (W : FlatLeaf) (S : List ℕ) (E : Scope) → KnownScope W S E → (o : Option Entity) (m : Option Method) (s at : Name) → IfSome o (IsKnown W S) → call_faults o m s at ≡ [] → given_faults E m ≡ [] → IsAct W S (called E (kind_of_entity o) (number_of o) m)
call_good W S E i (Some (entity.Stream false j n)) (Some reads) s at k h g = record { step = (j, k); straight = tt; clear = refl }
call_good W S E i (Some (entity.Stream false j n)) (Some peeks) s at k h g = record { step = (j, k); straight = tt; clear = refl }
call_good W S E i (Some (entity.Stream false j n)) (Some tests_end) s at k h g = record { step = (kind.Bool, (j, k, refl)); straight = tt; clear = refl }
call_good W S E i (Some (entity.Stream false j n)) (Some opens) s at k h g = record { step = (j, k); straight = tt; clear = refl }
call_good W S E i (Some (entity.Stream false j n)) (Some (writes e)) s at k h g = absurd (cc)
call_good W S E i (Some (entity.Stream false j n)) (Some closes) s at k h g = absurd (cc)
call_good W S E i (Some (entity.Stream true j n)) (Some (writes e)) s at k h g =
    record { step = (j, k, cast_value W S (kind_of E e) j (value_of E e) (meaning_good W S E i false e g)); straight = tt; clear = refl }
call_good W S E i (Some (entity.Stream true j n)) (Some closes) s at k h g = record { step = (j, k); straight = tt; clear = refl }
call_good W S E i (Some (entity.Stream true j n)) (Some reads) s at k h g = absurd (cc)
call_good W S E i (Some (entity.Stream true j n)) (Some peeks) s at k h g = absurd (cc)
call_good W S E i (Some (entity.Stream true j n)) (Some tests_end) s at k h g = absurd (cc)
call_good W S E i (Some (entity.Stream true j n)) (Some opens) s at k h g = absurd (cc)
call_good W S E i (Some (entity.Stream b j n)) None s at k h g = absurd (cc)
call_good W S E i None m s at k h g = absurd (cc)
call_good W S E i (Some (entity.Constant j n)) m s at k h g = absurd (cc)
call_good W S E i (Some (entity.Variable f j n)) m s at k h g = absurd (cc)
call_good W S E i (Some (entity.Array f j n)) m s at k h g = absurd (cc)
call_good W S E i (Some (entity.Memory f j n)) m s at k h g = absurd (cc)
call_good W S E i (Some (entity.Channel j n)) m s at k h g = absurd (cc)
call_good W S E i (Some (entity.Task task_number)) m s at k h g = absurd (cc)

-- ---- actions

pub action_good : (W : FlatLeaf) (S : List ℕ) (E : Scope) → KnownScope W S E → (a : ActionTree) → action_faults E a ≡ [] → AreActs W S (action_code E a)
action_good W S E i (tree.call_action s m es) h =
    let o = entity_of s.text E in
    let method = method_of m.text es in
    (call_good W S E i o method s m (known_at W S s.text E i) (left_empty (call_faults o method s m) (given_faults E method) h) (right_empty (call_faults o method s m) (given_faults E method) h), tt)
action_good W S E i (tree.write s es) h =
    let o = entity_of s.text E in
    let values = flat_map (faults_of E false) es in
    written W S E i (number_of o) (kind_of_entity o) (an_output W S s.place o (known_at W S s.text E i) (left_empty (name_faults E is_output s) values h)) es (right_empty (name_faults E is_output s) values h)
action_good W S E i (tree.read s ps) h =
    let o = entity_of s.text E in
    let targets = flat_map (place_faults E) ps in
    read_places W S E i (number_of o) (kind_of_entity o) (input_good W S E i s (left_empty (name_faults E is_input s) targets h)) ps (right_empty (name_faults E is_input s) targets h)
action_good W S E i (tree.assign p o at e) h =
    let d = divisor_faults E (assignment_divides o) at e in
    let q = left_empty (place_faults E p ++ d) (faults_of E false e) h in
    (assign_good W S E (target_of E p) o at e (target_good W S E i false p (left_empty (place_faults E p) d q)) (meaning_good W S E i false e (right_empty (place_faults E p ++ d) (faults_of E false e) h)) (right_empty (place_faults E p) d q), tt)
action_good W S E i (tree.postfix p o at) h = (step_good W S (target_of E p) o (target_good W S E i (is_increment o) p h), tt)
action_good W S E i (tree.prefix_step o at p) h = (step_good W S (target_of E p) o (target_good W S E i (is_increment o) p h), tt)
