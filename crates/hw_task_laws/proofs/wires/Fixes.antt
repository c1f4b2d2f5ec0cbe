-- What is computed before anything is printed is the value.
use Rattle.std.proofs.Common.{◌≡◌, ℕ, ◌-◌, ◌*◌, ◌^◌, ◌<◌, Bool, true, false, ◌&&◌, Option, Some, None, refl, ap, ◌∙◌}
use Rattle.std.specs.Prelude.{nat_lt}
use Rattle.std.proofs.lemmas.Bool.{lt-ltb, and_from as both_hold}
use Rattle.tapa_base.specs.declared.kind.Kind.{Kind}
use Rattle.tapa_base.specs.declared.kind.Kind.TheVariants as kind
use Rattle.tapa_base.specs.declared.op.Op.{Op}
use Rattle.tapa_base.specs.declared.op.Op.TheVariants as op
use Rattle.tapa_base.specs.Kinds.{bits_of, values_of, converted}
use Rattle.tapa_base.specs.Operators.{applied}
use Rattle.tapa_syntax.specs.Typed.{right_kind}
use Rattle.kahn_model.specs.Trace.{State, at_zero}
use Rattle.task_fsm.specs.Machine.{Expression, Number, Converted, Applied, Flipped, Inverse, Both, Either, Chosen}
use Rattle.task_fsm.specs.MachineKinds.{IsDivisor}
use Rattle.task_fsm.specs.Run.{value}
use Rattle.task_fsm.proofs.Steps.{value_fits}
use Rattle.hw_lines.specs.Fixed.{only_if, on_one, on_two, on_three, can_apply, fixed}
use Rattle.hw_task_laws.specs.wires.Computes.{FixedIsValue, NumbersAreFixed}

pub some_same : (n v : ℕ) → Some n ≡ Some v → n ≡ v
some_same n v e = cc

only_is : (b : Bool) (n v : ℕ) → only_if b n ≡ Some v → n ≡ v
only_is true n v e = some_same n v e
only_is false n v e = cc

one_is : (o : Option ℕ) (u : ℕ) → ((a : ℕ) → o ≡ Some a → u ≡ a) → (f : ℕ → Option ℕ) (g : ℕ → ℕ) → ((a b : ℕ) → f a ≡ Some b → g a ≡ b) → (v : ℕ) → on_one o f ≡ Some v → g u ≡ v
one_is None u h f g k v e = cc
one_is (Some a) u h f g k v e = ap g (h a refl) ∙ k a v e

two_is : (o p : Option ℕ) (u w : ℕ) → ((a : ℕ) → o ≡ Some a → u ≡ a) → ((a : ℕ) → p ≡ Some a → w ≡ a) → (f : ℕ → ℕ → Option ℕ) (g : ℕ → ℕ → ℕ)
    → ((a b r : ℕ) → f a b ≡ Some r → g a b ≡ r) → (v : ℕ) → on_two o p f ≡ Some v → g u w ≡ v
two_is None p u w h i f g k v e = cc
two_is (Some a) None u w h i f g k v e = cc
two_is (Some a) (Some b) u w h i f g k v e = ap (λ z. g z w) (h a refl) ∙ ap (g a) (i b refl) ∙ k a b v e

three_is : (o p q : Option ℕ) (u w t : ℕ) → ((a : ℕ) → o ≡ Some a → u ≡ a) → ((a : ℕ) → p ≡ Some a → w ≡ a) → ((a : ℕ) → q ≡ Some a → t ≡ a) → (f : ℕ → ℕ → ℕ → Option ℕ) (g : ℕ → ℕ → ℕ → ℕ)
    → ((a b d r : ℕ) → f a b d ≡ Some r → g a b d ≡ r) → (v : ℕ) → on_three o p q f ≡ Some v → g u w t ≡ v
three_is None p q u w t h i j f g k v e = cc
three_is (Some a) p q u w t h i j f g k v e = ap (λ z. g z w t) (h a refl) ∙ two_is p q w t i j (f a) (g a) (k a) v e

pub fixed_value : FixedIsValue
fixed_value (Number k n) σ v h = some_same n v h
fixed_value (Converted s t e) σ v h = one_is (fixed e) (value e σ) (λ a g. fixed_value e σ a g) _ (converted s t) (λ a b. only_is (nat_lt a (values_of s)) (converted s t a) b) v h
fixed_value (Applied o k l r) σ v h =
    two_is (fixed l) (fixed r) (value l σ) (value r σ) (λ a g. fixed_value l σ a g) (λ a g. fixed_value r σ a g) _ (applied o k) (λ a b. only_is (nat_lt a (values_of k) && can_apply o k b) (applied o k a b)) v h
fixed_value (Flipped k e) σ v h = one_is (fixed e) (value e σ) (λ a g. fixed_value e σ a g) _ (λ z. 2 ^ bits_of k - 1 - z) (λ a. only_is (nat_lt a (values_of k)) (2 ^ bits_of k - 1 - a)) v h
fixed_value (Inverse e) σ v h = one_is (fixed e) (value e σ) (λ a g. fixed_value e σ a g) _ (λ z. 1 - z) (λ a. only_is (nat_lt a 2) (1 - a)) v h
fixed_value (Both l r) σ v h =
    two_is (fixed l) (fixed r) (value l σ) (value r σ) (λ a g. fixed_value l σ a g) (λ a g. fixed_value r σ a g) _ (λ a b. a * b) (λ a b. only_is (nat_lt a 2 && nat_lt b 2) (a * b)) v h
fixed_value (Either l r) σ v h =
    two_is (fixed l) (fixed r) (value l σ) (value r σ) (λ a g. fixed_value l σ a g) (λ a g. fixed_value r σ a g) _ (λ a b. 1 - (1 - a) * (1 - b)) (λ a b. only_is (nat_lt a 2 && nat_lt b 2) (1 - (1 - a) * (1 - b))) v h
fixed_value (Chosen e a b) σ v h =
    three_is (fixed e) (fixed a) (fixed b) (value e σ) (value a σ) (value b σ) (λ x g. fixed_value e σ x g) (λ x g. fixed_value a σ x g) (λ x g. fixed_value b σ x g) _ (λ x y z. at_zero x z y) (λ x y z r g. some_same (at_zero x z y) r g) v h
fixed_value _ σ v h = cc

-- ---- and the other way

only_there : (b : Bool) (n : ℕ) → b ≡ true → only_if b n ≡ Some n
only_there b n e = ap (λ z. only_if z n) e

one_there : (o : Option ℕ) (u : ℕ) → o ≡ Some u → (f : ℕ → Option ℕ) (b : ℕ) → f u ≡ Some b → on_one o f ≡ Some b
one_there o u e f b h = ap (λ z. on_one z f) e ∙ h

two_there : (o p : Option ℕ) (u w : ℕ) → o ≡ Some u → p ≡ Some w → (f : ℕ → ℕ → Option ℕ) (b : ℕ) → f u w ≡ Some b → on_two o p f ≡ Some b
two_there o p u w e d f b h = ap (λ z. on_two z p f) e ∙ ap (λ z. on_two (Some u) z f) d ∙ h

can_hold : (o : Op) (j : Kind) (r : Expression) (σ : State) → value r σ < values_of (right_kind o j) → IsDivisor o r → can_apply o j (value r σ) ≡ true
can_hold op.Div j r σ h d = both_hold (nat_lt 0 (value r σ)) (nat_lt (value r σ) (values_of j)) (lt-ltb 0 (value r σ) (d.1 σ)) (lt-ltb (value r σ) (values_of j) h)
can_hold op.Rem j r σ h d = both_hold (nat_lt 0 (value r σ)) (nat_lt (value r σ) (values_of j)) (lt-ltb 0 (value r σ) (d.1 σ)) (lt-ltb (value r σ) (values_of j) h)
can_hold op.Shl j r σ h d = refl
can_hold op.Shr j r σ h d = refl
can_hold _ j r σ h d = lt-ltb (value r σ) (values_of j) h

two_bits : (a b : ℕ) → a < 2 → b < 2 → (nat_lt a 2 && nat_lt b 2) ≡ true
two_bits a b h i = both_hold (nat_lt a 2) (nat_lt b 2) (lt-ltb a 2 h) (lt-ltb b 2 i)

pub numbers_fixed : NumbersAreFixed
numbers_fixed K (Number j n) k σ t h f = refl
numbers_fixed K (Converted s q e) k σ t h f =
    one_there (fixed e) (value e σ) (numbers_fixed K e s σ t.1 h f) _ (converted s q (value e σ)) (only_there (nat_lt (value e σ) (values_of s)) (converted s q (value e σ)) (lt-ltb (value e σ) (values_of s) (value_fits K e s σ t.1 h)))
numbers_fixed K (Applied o j l r) k σ t h f =
    two_there (fixed l) (fixed r) (value l σ) (value r σ) (numbers_fixed K l j σ t.1 h f.0) (numbers_fixed K r (right_kind o j) σ t.2 h f.1) _ (applied o j (value l σ) (value r σ))
    (only_there (nat_lt (value l σ) (values_of j) && can_apply o j (value r σ)) (applied o j (value l σ) (value r σ))
    (both_hold (nat_lt (value l σ) (values_of j)) (can_apply o j (value r σ)) (lt-ltb (value l σ) (values_of j) (value_fits K l j σ t.1 h)) (can_hold o j r σ (value_fits K r (right_kind o j) σ t.2 h) t.3)))
numbers_fixed K (Flipped j e) k σ t h f =
    one_there (fixed e) (value e σ) (numbers_fixed K e j σ t.1 h f) _ (2 ^ bits_of j - 1 - value e σ) (only_there (nat_lt (value e σ) (values_of j)) (2 ^ bits_of j - 1 - value e σ) (lt-ltb (value e σ) (values_of j) (value_fits K e j σ t.1 h)))
numbers_fixed K (Inverse e) k σ t h f =
    one_there (fixed e) (value e σ) (numbers_fixed K e kind.Bool σ t.1 h f) _ (1 - value e σ) (only_there (nat_lt (value e σ) 2) (1 - value e σ) (lt-ltb (value e σ) 2 (value_fits K e kind.Bool σ t.1 h)))
numbers_fixed K (Both l r) k σ t h f =
    two_there (fixed l) (fixed r) (value l σ) (value r σ) (numbers_fixed K l kind.Bool σ t.1 h f.0) (numbers_fixed K r kind.Bool σ t.2 h f.1) _ (value l σ * value r σ)
    (only_there (nat_lt (value l σ) 2 && nat_lt (value r σ) 2) (value l σ * value r σ) (two_bits (value l σ) (value r σ) (value_fits K l kind.Bool σ t.1 h) (value_fits K r kind.Bool σ t.2 h)))
numbers_fixed K (Either l r) k σ t h f =
    two_there (fixed l) (fixed r) (value l σ) (value r σ) (numbers_fixed K l kind.Bool σ t.1 h f.0) (numbers_fixed K r kind.Bool σ t.2 h f.1) _ (1 - (1 - value l σ) * (1 - value r σ))
    (only_there (nat_lt (value l σ) 2 && nat_lt (value r σ) 2) (1 - (1 - value l σ) * (1 - value r σ)) (two_bits (value l σ) (value r σ) (value_fits K l kind.Bool σ t.1 h) (value_fits K r kind.Bool σ t.2 h)))
numbers_fixed K (Chosen e a b) k σ t h f =
    ap (λ z. on_three z (fixed a) (fixed b) (λ v x y. Some (at_zero v y x))) (numbers_fixed K e kind.Bool σ t.0 h f.0)
    ∙ two_there (fixed a) (fixed b) (value a σ) (value b σ) (numbers_fixed K a k σ t.1 h f.1) (numbers_fixed K b k σ t.2 h f.2) (λ x y. Some (at_zero (value e σ) y x)) (at_zero (value e σ) (value b σ) (value a σ)) refl
numbers_fixed K _ k σ t h f = absurd f
