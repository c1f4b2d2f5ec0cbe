-- What conversions and operators give is a value of the kind that they name.
use Rattle.std.proofs.Common.{ℕ, ◌+◌, ◌-◌, ◌*◌, ◌%◌, ◌^◌, ◌<◌, Bool, true, false, arith}
use Rattle.std.specs.Prelude.{ℤ, pos, negsuc, if◌then◌else◌, ◌==◌, nat_lt, bit_and, not}
use Rattle.std.specs.Int.RustNames.{int_lt, int_le, int_div, int_rem}
use Rattle.std.proofs.lemmas.Nat.{pow_pos, and_le_l, or_lt, xor_lt}
use Rattle.tapa_base.specs.declared.kind.Kind.{Kind}
use Rattle.tapa_base.specs.declared.kind.Kind.TheVariants as kind
use Rattle.tapa_base.specs.declared.op.Op.{Op}
use Rattle.tapa_base.specs.declared.op.Op.TheVariants as op
use Rattle.tapa_base.specs.Kinds.{bits_of, values_of, number, residue, converted}
use Rattle.tapa_base.specs.Operators.{applied, bit, floor_div, sign_bits}
use Rattle.tapa_syntax.specs.Typed.{result_kind, right_kind}

residue_below : (m : ℕ) (z : ℤ) → 0 < m → residue m z < m
residue_below m (pos n) h = omega arith
residue_below m (negsuc n) h = omega arith

pub residue_fits : (k : Kind) (z : ℤ) → residue (values_of k) z < values_of k
residue_fits k z = residue_below (values_of k) z (pow_pos (bits_of k))

left_fits : (n k : ℕ) → n % 2 ^ k < 2 ^ k
left_fits n k = let h = pow_pos k in omega arith

zero_fits : (k : ℕ) → 0 < 2 ^ k
zero_fits k = pow_pos k

pub if_below : (b : Bool) (x y m : ℕ) → x < m → y < m → (if b then x else y) < m
if_below true x y m p q = p
if_below false x y m p q = q

pub bit_fits : (b : Bool) → bit b < values_of kind.Bool
bit_fits b = if_below b 1 0 2 (omega arith) (omega arith)

-- a conversion gives a value of its target
pub converted_fits : (from to : Kind) (a : ℕ) → converted from to a < values_of to
converted_fits from kind.Bool a = if_below (a == 0) 0 1 2 (omega arith) (omega arith)
converted_fits from kind.I8 a = residue_fits kind.I8 (number from a)
converted_fits from kind.U8 a = residue_fits kind.U8 (number from a)
converted_fits from kind.I16 a = residue_fits kind.I16 (number from a)
converted_fits from kind.U16 a = residue_fits kind.U16 (number from a)
converted_fits from kind.I32 a = residue_fits kind.I32 (number from a)
converted_fits from kind.U32 a = residue_fits kind.U32 (number from a)
converted_fits from kind.I64 a = residue_fits kind.I64 (number from a)
converted_fits from kind.U64 a = residue_fits kind.U64 (number from a)

sign_below : (k : Kind) (z : ℤ) → sign_bits k z < values_of k
sign_below k (pos n) = pow_pos (bits_of k)
sign_below k (negsuc n) = let h = pow_pos (bits_of k) in omega arith

and_below : (a b m : ℕ) → a < m → bit_and a b < m
and_below a b m h = let l = and_le_l a b in omega arith

-- an operator at operands of its kinds gives a value of the kind of its result
pub applied_fits : (o : Op) (k : Kind) (a b : ℕ) → a < values_of k → b < values_of (right_kind o k) → applied o k a b < values_of (result_kind o k)
applied_fits op.Add k a b p q = left_fits (a + b) (bits_of k)
applied_fits op.Sub k a b p q = left_fits (a + (values_of k - b)) (bits_of k)
applied_fits op.Mul k a b p q = left_fits (a * b) (bits_of k)
applied_fits op.Div k a b p q = residue_fits k (int_div (number k a) (number k b))
applied_fits op.Rem k a b p q = residue_fits k (int_rem (number k a) (number k b))
applied_fits op.Shl k a b p q = if_below (nat_lt b (bits_of k)) ((a * 2 ^ b) % values_of k) 0 (values_of k) (left_fits (a * 2 ^ b) (bits_of k)) (pow_pos (bits_of k))
applied_fits op.Shr k a b p q =
    if_below (nat_lt b (bits_of k)) (residue (values_of k) (floor_div (number k a) (2 ^ b))) (sign_bits k (number k a)) (values_of k)
    (residue_fits k (floor_div (number k a) (2 ^ b))) (sign_below k (number k a))
applied_fits op.And k a b p q = and_below a b (values_of k) p
applied_fits op.Or k a b p q = or_lt (bits_of k) a b p q
applied_fits op.Xor k a b p q = xor_lt (bits_of k) a b p q
applied_fits op.Eq k a b p q = bit_fits (a == b)
applied_fits op.Ne k a b p q = bit_fits (not (a == b))
applied_fits op.Lt k a b p q = bit_fits (int_lt (number k a) (number k b))
applied_fits op.Le k a b p q = bit_fits (int_le (number k a) (number k b))
applied_fits op.Gt k a b p q = bit_fits (int_lt (number k b) (number k a))
applied_fits op.Ge k a b p q = bit_fits (int_le (number k b) (number k a))
