-- Conversions keep a value a value, and a divisor other than 0.
use Rattle.std.proofs.Common.{◌≡◌, ◌<◌, ◌≤◌, ◌-◌, ◌*◌, ◌%◌, ◌^◌, ℕ, zero, suc, List, [], ◌∷◌, Bool, true, false, refl, sym, ap, subst, ◌∙◌, arith, cond}
use Rattle.std.specs.Prelude.{pos, negsuc, ◌-ℤ◌, slice_index_or, if◌then◌else◌, ◌==◌, ◌&&◌, nat_le}
use Rattle.std.proofs.Math.Nat.{mod-eq_of_lt}
use Rattle.std.proofs.Math.Pow.{pow_mono}
use Rattle.std.proofs.lemmas.Nat.{pow_pos}
use Rattle.std.proofs.lemmas.Bool.{eqb-true, ne_eqb, lt-ltb}
use Rattle.tapa_base.specs.declared.kind.Kind.{Kind}
use Rattle.tapa_base.specs.declared.kind.Kind.TheVariants as kind
use Rattle.tapa_base.specs.declared.op.Op.{Op}
use Rattle.tapa_base.specs.declared.op.Op.TheVariants as op
use Rattle.tapa_base.specs.Kinds.{bits_of, is_signed, promoted, met, joined, values_of, number, residue, converted}
use Rattle.tapa_base.specs.Operators.{applied}
use Rattle.tapa_syntax.specs.Typed.{result_kind, right_kind}
use Rattle.tapa_syntax.specs.Flat.{FlatExpression, literal, convert, apply, flip, negation, conjunction, disjunction, choice, FlatLeaf}
use Rattle.check_expression.specs.Kinds.{rank, same_kind}
use Rattle.check_expression.specs.Expressions.{operated_kind, as_kind, constant_value}
use Rattle.tapa_syntax.proofs.Values.{converted_fits, applied_fits, if_below as one_of}
use Rattle.check_leaf.proofs.Flats.{IsValue, IsFlatConstant, MayDivideBy}
use Rattle.tapa_base.proofs.Tests.{few_bits as most_bits, not_below as less_one}

-- ---- kinds

abbrev kinds_ranked : List Kind
kinds_ranked = kind.Bool ∷ kind.I8 ∷ kind.U8 ∷ kind.I16 ∷ kind.U16 ∷ kind.I32 ∷ kind.U32 ∷ kind.I64 ∷ kind.U64 ∷ []

ranked : (k : Kind) → slice_index_or kinds_ranked (rank k) kind.U64 ≡ k
ranked kind.Bool = refl
ranked kind.I8 = refl
ranked kind.U8 = refl
ranked kind.I16 = refl
ranked kind.U16 = refl
ranked kind.I32 = refl
ranked kind.U32 = refl
ranked kind.I64 = refl
ranked kind.U64 = refl

pub same_kinds : (j k : Kind) → same_kind j k ≡ true → j ≡ k
same_kinds j k h = sym (ranked j) ∙ ap (λ n. slice_index_or kinds_ranked n kind.U64) (eqb-true (rank j) (rank k) h) ∙ ranked k

-- ---- the value of a constant is one of its kind

both_one : (m n : ℕ) → m < 2 → n < 2 → m * n < 2
both_one zero n h k = omega arith
both_one (suc zero) n h k = omega arith
both_one (suc (suc m)) n h k = absurd (omega arith)

flipped : (k n : ℕ) → 2 ^ k - 1 - n < 2 ^ k
flipped k n = let h = pow_pos k in omega arith

fits : (n : ℕ) (j k : Kind) → j ≡ k → n < values_of j → n < values_of k
fits n j k e h = subst (λ i. n < values_of i) e h

pub constant_fits : (W : FlatLeaf) (S : List ℕ) (e : FlatExpression) (k : Kind) → IsValue W S e k → IsFlatConstant e → constant_value e < values_of k
constant_fits W S (literal j n) k (h, l) c = l
constant_fits W S (convert from to e) k (h, g) c = fits (converted from to (constant_value e)) to k h (converted_fits from to (constant_value e))
constant_fits W S (apply o j a b) k (h, x, y, d) (p, q) =
    fits (applied o j (constant_value a) (constant_value b)) (result_kind o j) k h
    (applied_fits o j (constant_value a) (constant_value b) (constant_fits W S a j x p) (constant_fits W S b (right_kind o j) y q))
constant_fits W S (flip j e) k (h, g) c = fits (2 ^ bits_of j - 1 - constant_value e) j k h (flipped (bits_of j) (constant_value e))
constant_fits W S (negation e) k (h, g) c = fits (1 - constant_value e) kind.Bool k h (less_one (constant_value e))
constant_fits W S (conjunction a b) k (h, x, y) (p, q) =
    fits (constant_value a * constant_value b) kind.Bool k h (both_one (constant_value a) (constant_value b) (constant_fits W S a kind.Bool x p) (constant_fits W S b kind.Bool y q))
constant_fits W S (disjunction a b) k (h, x, y) c = fits (1 - (1 - constant_value a) * (1 - constant_value b)) kind.Bool k h (less_one ((1 - constant_value a) * (1 - constant_value b)))
constant_fits W S (choice t a b) k (h, x, y) (c, p, q) = one_of (constant_value t == 0) (constant_value b) (constant_value a) (values_of k) (constant_fits W S b k y q) (constant_fits W S a k x p)
constant_fits W S _ k g c = absurd c

-- ---- a conversion to a wider kind

below_zero : (m v a : ℕ) → 0 < a → a < v → v ≤ m → 0 < residue m (pos a -ℤ pos v)
below_zero m zero a p h l = absurd (omega arith)
below_zero m (suc v) a p h l =
    let e : (suc v - suc a) % m ≡ suc v - suc a = mod-eq_of_lt (omega arith) in
    let g : 0 < m - 1 - (suc v - suc a) % m = omega arith in
    subst (λ b. 0 < residue m (cond b (negsuc (suc v - suc a)) (pos (a - suc v)))) (sym (lt-ltb a (suc v) h)) g

not_zero : (b : Bool) (m v a : ℕ) → 0 < a → a < v → v ≤ m → 0 < residue m (if b then pos a -ℤ pos v else pos a)
not_zero true m v a p h l = below_zero m v a p h l
not_zero false m v a p h l =
    let e : a % m ≡ a = mod-eq_of_lt (omega arith) in
    let g : 0 < a % m = omega arith in
    g

as_bool : (a : ℕ) → 0 < a → 0 < (if a == 0 then 0 else 1)
as_bool a p = subst (λ b. 0 < (if b then 0 else 1)) (sym (ne_eqb a 0 (λ e. omega arith))) (omega arith)

widened : (from to : Kind) (a : ℕ) → 0 < a → a < values_of from → bits_of from ≤ bits_of to → 0 < residue (values_of to) (number from a)
widened from to a p h l = not_zero (is_signed from && nat_le (2 ^ (bits_of from - 1)) a) (values_of to) (values_of from) a p h (pow_mono l)

wider : (from to : Kind) (a : ℕ) → 0 < a → a < values_of from → bits_of from ≤ bits_of to → 0 < converted from to a
wider from kind.Bool a p h l = as_bool a p
wider from kind.I8 a p h l = widened from kind.I8 a p h l
wider from kind.U8 a p h l = widened from kind.U8 a p h l
wider from kind.I16 a p h l = widened from kind.I16 a p h l
wider from kind.U16 a p h l = widened from kind.U16 a p h l
wider from kind.I32 a p h l = widened from kind.I32 a p h l
wider from kind.U32 a p h l = widened from kind.U32 a p h l
wider from kind.I64 a p h l = widened from kind.I64 a p h l
wider from kind.U64 a p h l = widened from kind.U64 a p h l

promotes : (k : Kind) → bits_of k ≤ bits_of (promoted k)
promotes kind.Bool = omega arith
promotes kind.I8 = omega arith
promotes kind.U8 = omega arith
promotes kind.I16 = omega arith
promotes kind.U16 = omega arith
promotes kind.I32 = omega arith
promotes kind.U32 = omega arith
promotes kind.I64 = omega arith
promotes kind.U64 = omega arith

same_bits : (n : ℕ) → n ≤ n
same_bits n = omega arith

meets : (j k : Kind) → bits_of k ≤ bits_of (met j k)
meets kind.U64 k = most_bits k
meets kind.I64 kind.U64 = omega arith
meets kind.I64 kind.Bool = omega arith
meets kind.I64 kind.I8 = omega arith
meets kind.I64 kind.U8 = omega arith
meets kind.I64 kind.I16 = omega arith
meets kind.I64 kind.U16 = omega arith
meets kind.I64 kind.I32 = omega arith
meets kind.I64 kind.U32 = omega arith
meets kind.I64 kind.I64 = omega arith
meets kind.U32 kind.U64 = omega arith
meets kind.U32 kind.Bool = omega arith
meets kind.U32 kind.I8 = omega arith
meets kind.U32 kind.U8 = omega arith
meets kind.U32 kind.I16 = omega arith
meets kind.U32 kind.U16 = omega arith
meets kind.U32 kind.I32 = omega arith
meets kind.U32 kind.U32 = omega arith
meets kind.U32 kind.I64 = omega arith
meets _ k = same_bits (bits_of k)

joins : (j k : Kind) → bits_of k ≤ bits_of (joined j k)
joins j k = let a = promotes k in let b = meets (promoted j) (promoted k) in omega arith

-- ---- conversions where the kinds differ

cast_by : (b : Bool) (W : FlatLeaf) (S : List ℕ) (j k : Kind) (e : FlatExpression) → (b ≡ true → j ≡ k) → IsValue W S e j → IsValue W S (if b then e else convert j k e) k
cast_by true W S j k e h g = subst (IsValue W S e) (h refl) g
cast_by false W S j k e h g = (refl, g)

pub cast_value : (W : FlatLeaf) (S : List ℕ) (j k : Kind) (e : FlatExpression) → IsValue W S e j → IsValue W S (as_kind j k e) k
cast_value W S j k e g = cast_by (same_kind j k) W S j k e (same_kinds j k) g

constant_by : (b : Bool) (j k : Kind) (e : FlatExpression) → IsFlatConstant e → IsFlatConstant (if b then e else convert j k e)
constant_by true j k e c = c
constant_by false j k e c = c

pub cast_constant : (j k : Kind) (e : FlatExpression) → IsFlatConstant e → IsFlatConstant (as_kind j k e)
cast_constant j k e c = constant_by (same_kind j k) j k e c

positive_by : (b : Bool) (j k : Kind) (e : FlatExpression) → 0 < constant_value e → constant_value e < values_of j → bits_of j ≤ bits_of k → 0 < constant_value (if b then e else convert j k e)
positive_by true j k e p h l = p
positive_by false j k e p h l = wider j k (constant_value e) p h l

divisor : (W : FlatLeaf) (S : List ℕ) (j k : Kind) (e : FlatExpression) → IsValue W S e k → IsFlatConstant e × (0 < constant_value e) → IsFlatConstant (as_kind k (joined j k) e) × (0 < constant_value (as_kind k (joined j k) e))
divisor W S j k e g (c, p) =
    (cast_constant k (joined j k) e c, positive_by (same_kind k (joined j k)) k (joined j k) e p (constant_fits W S e k g c) (joins j k))

-- the right operand of an operator, converted
pub cast_divides : (W : FlatLeaf) (S : List ℕ) (o : Op) (j k : Kind) (e : FlatExpression) → IsValue W S e k → MayDivideBy o e → MayDivideBy o (as_kind k (right_kind o (operated_kind o j k)) e)
cast_divides W S op.Div j k e g d = divisor W S j k e g d
cast_divides W S op.Rem j k e g d = divisor W S j k e g d
cast_divides W S _ j k e g d = tt
