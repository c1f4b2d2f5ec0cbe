-- What the operators give, on the bits of two values of one kind.
use Rattle.std.specs.Prelude.{◌+◌, ◌-◌, ◌*◌, ◌/◌, ◌%◌, ◌^◌, ◌<◌, if◌then◌else◌, ◌==◌}
use Rattle.std.specs.Prelude.{ℕ, ⊤, ℤ, pos, negsuc, nat_lt, Bool, true, false, not, bit_and, bit_or, bit_xor}
use Rattle.std.specs.Int.RustNames.{int_lt, int_le, int_div, int_rem}
use Rattle.tapa_base.specs.declared.kind.Kind.{Kind}
use Rattle.tapa_base.specs.declared.kind.Kind.TheVariants as kind
use Rattle.tapa_base.specs.declared.op.Op.{Op}
use Rattle.tapa_base.specs.declared.op.Op.TheVariants as op
use Rattle.tapa_base.specs.Kinds.{bits_of, values_of, number, residue}

abbrev pub bit : Bool → ℕ
bit b = if b then 1 else 0

-- the operators whose right operand is a count
abbrev pub is_shift : Op → Bool
is_shift op.Shl = true
is_shift op.Shr = true
is_shift o = false

-- the operators that give a truth value
abbrev pub is_comparison : Op → Bool
is_comparison op.Eq = true
is_comparison op.Ne = true
is_comparison op.Lt = true
is_comparison op.Le = true
is_comparison op.Gt = true
is_comparison op.Ge = true
is_comparison o = false

-- the kind of the right operand of an operator that is done in a kind: a count of a shift has 64 bits without sign
abbrev pub right_kind : Op → Kind → Kind
right_kind op.Shl k = kind.U64
right_kind op.Shr k = kind.U64
right_kind o k = k

-- the greatest whole number whose d-fold is no greater
abbrev pub floor_div : ℤ → ℕ → ℤ
floor_div (pos n) d = pos (n / d)
floor_div (negsuc n) d = negsuc (n / d)

-- every bit is the sign
abbrev pub sign_bits : Kind → ℤ → ℕ
sign_bits k (pos n) = 0
sign_bits k (negsuc n) = values_of k - 1

-- what an operator asks of its right operand: a value of the kind, not 0 for a divisor; any count for a shift
abbrev pub CanApply : Op → Kind → ℕ → Type 0
CanApply op.Div k b = (0 < b) × (b < values_of k)
CanApply op.Rem k b = (0 < b) × (b < values_of k)
CanApply op.Shl k b = ⊤
CanApply op.Shr k b = ⊤
CanApply o k b = b < values_of k

abbrev pub applied : Op → Kind → ℕ → ℕ → ℕ
applied op.Add k a b = (a + b) % values_of k
applied op.Sub k a b = (a + (values_of k - b)) % values_of k
applied op.Mul k a b = (a * b) % values_of k
applied op.Div k a b = residue (values_of k) (int_div (number k a) (number k b))
applied op.Rem k a b = residue (values_of k) (int_rem (number k a) (number k b))
applied op.Shl k a b = if nat_lt b (bits_of k) then (a * 2 ^ b) % values_of k else 0
applied op.Shr k a b = if nat_lt b (bits_of k) then residue (values_of k) (floor_div (number k a) (2 ^ b)) else sign_bits k (number k a)
applied op.And k a b = bit_and a b
applied op.Or k a b = bit_or a b
applied op.Xor k a b = bit_xor a b
applied op.Eq k a b = bit (a == b)
applied op.Ne k a b = bit (not (a == b))
applied op.Lt k a b = bit (int_lt (number k a) (number k b))
applied op.Le k a b = bit (int_le (number k a) (number k b))
applied op.Gt k a b = bit (int_lt (number k b) (number k a))
applied op.Ge k a b = bit (int_le (number k b) (number k a))
