-- Operators on numbers that are known.
use Rattle.std.proofs.Common.{◌≡◌, ℕ, zero, suc, ◌-◌, ◌*◌, ◌<◌, Bool, true, false, ◌&&◌, ltb, Some, None, refl, sym, ap, ◌∙◌, arith, lt-ltb, ltb-true}
use Rattle.std.specs.Prelude.{IsTrue}
use Rattle.std.proofs.lemmas.Bool.{false≢true, and_from as yes_and}
use Rattle.tapa_base.specs.declared.kind.Kind.{Kind}
use Rattle.tapa_base.specs.declared.op.Op.{Op}
use Rattle.tapa_base.specs.declared.op.Op.TheVariants.{Add, Sub, Mul, Div, Rem, And, Or, Xor, Shl, Shr, Eq, Ne, Lt, Le, Gt, Ge}
use Rattle.tapa_base.specs.Kinds.{values_of}
use Rattle.tapa_base.specs.Operators.{CanApply}
use Rattle.kahn_model.specs.Trace.{at_zero}
use Rattle.hw_lines.specs.Fixed.{can_apply, only_if}
use Rattle.tapa_base.proofs.Tests.{both_true}

-- the test is the one of the operators
pub applies : (op : Op) (k : Kind) (b : ℕ) → CanApply op k b → can_apply op k b ≡ true
applies Add k b h = lt-ltb b (values_of k) h
applies Sub k b h = lt-ltb b (values_of k) h
applies Mul k b h = lt-ltb b (values_of k) h
applies Div k b h = yes_and (ltb 0 b) (ltb b (values_of k)) (lt-ltb 0 b h.0) (lt-ltb b (values_of k) h.1)
applies Rem k b h = yes_and (ltb 0 b) (ltb b (values_of k)) (lt-ltb 0 b h.0) (lt-ltb b (values_of k) h.1)
applies And k b h = lt-ltb b (values_of k) h
applies Or k b h = lt-ltb b (values_of k) h
applies Xor k b h = lt-ltb b (values_of k) h
applies Shl k b h = refl
applies Shr k b h = refl
applies Eq k b h = lt-ltb b (values_of k) h
applies Ne k b h = lt-ltb b (values_of k) h
applies Lt k b h = lt-ltb b (values_of k) h
applies Le k b h = lt-ltb b (values_of k) h
applies Gt k b h = lt-ltb b (values_of k) h
applies Ge k b h = lt-ltb b (values_of k) h

can_be : (op : Op) (k : Kind) (b : ℕ) → can_apply op k b ≡ true → CanApply op k b
can_be Add k b h = ltb-true b (values_of k) h
can_be Sub k b h = ltb-true b (values_of k) h
can_be Mul k b h = ltb-true b (values_of k) h
can_be Div k b h = let p = both_true (ltb 0 b) (ltb b (values_of k)) h in (ltb-true 0 b p.0, ltb-true b (values_of k) p.1)
can_be Rem k b h = let p = both_true (ltb 0 b) (ltb b (values_of k)) h in (ltb-true 0 b p.0, ltb-true b (values_of k) p.1)
can_be And k b h = ltb-true b (values_of k) h
can_be Or k b h = ltb-true b (values_of k) h
can_be Xor k b h = ltb-true b (values_of k) h
can_be Shl k b h = tt
can_be Shr k b h = tt
can_be Eq k b h = ltb-true b (values_of k) h
can_be Ne k b h = ltb-true b (values_of k) h
can_be Lt k b h = ltb-true b (values_of k) h
can_be Le k b h = ltb-true b (values_of k) h
can_be Gt k b h = ltb-true b (values_of k) h
can_be Ge k b h = ltb-true b (values_of k) h

pub applied_some : (op : Op) (k : Kind) (a b v : ℕ) → a < values_of k → CanApply op k b → Some v ≡ only_if (ltb a (values_of k) && can_apply op k b) v
applied_some op k a b v h can = sym (ap (λ t. only_if t v) (yes_and (ltb a (values_of k)) (can_apply op k b) (lt-ltb a (values_of k) h) (applies op k b can)))

none_by : (t : Bool) (v : ℕ) → (t ≡ true → ⊥) → None ≡ only_if t v
none_by true v h = absurd (h refl)
none_by false v h = refl

pub applied_none : (op : Op) (k : Kind) (a b v : ℕ) (r : Bool) → r ≡ false → (a < values_of k → CanApply op k b → IsTrue r) → None ≡ only_if (ltb a (values_of k) && can_apply op k b) v
applied_none op k a b v r e all =
    none_by (ltb a (values_of k) && can_apply op k b) v
    (λ t. let p = both_true (ltb a (values_of k)) (can_apply op k b) t in false≢true (sym e ∙ all (ltb-true a (values_of k) p.0) (can_be op k b p.1)))

-- on bits
pub both_zero : (a b : ℕ) → a ≡ 0 → 0 ≡ a * b
both_zero a b e = let p : a * b ≡ 0 * b = ap (λ z. z * b) e in omega (arith, p)

pub both_one : (a b : ℕ) → a < 2 → (a ≡ 0 → ⊥) → b ≡ a * b
both_one a b h n = let one : a ≡ 1 = omega arith in let p : a * b ≡ 1 * b = ap (λ z. z * b) one in omega (arith, p)

pub either_zero : (a b : ℕ) → b < 2 → a ≡ 0 → b ≡ 1 - (1 - a) * (1 - b)
either_zero a b h e =
    let p : (1 - a) * (1 - b) ≡ 1 * (1 - b) = ap (λ z. (1 - z) * (1 - b)) e in
    let q : 1 * (1 - b) ≡ 1 - b = omega arith in
    let r : b ≡ 1 - (1 - b) = omega arith in
    r ∙ sym (ap (λ z. 1 - z) (p ∙ q))

pub either_one : (a b : ℕ) → a < 2 → (a ≡ 0 → ⊥) → 1 ≡ 1 - (1 - a) * (1 - b)
either_one a b h n =
    let one : a ≡ 1 = omega arith in
    let p : (1 - a) * (1 - b) ≡ 0 * (1 - b) = ap (λ z. (1 - z) * (1 - b)) one in
    let q : 0 * (1 - b) ≡ 0 = omega arith in
    sym (ap (λ z. 1 - z) (p ∙ q))

-- a choice by a number
pub first_chosen : (n a b : ℕ) → n ≡ 0 → a ≡ at_zero n a b
first_chosen n a b e = sym (ap (λ z. at_zero z a b) e)

pub second_chosen : (n a b : ℕ) → (n ≡ 0 → ⊥) → b ≡ at_zero n a b
second_chosen zero a b h = absurd (h refl)
second_chosen (suc n) a b h = refl
