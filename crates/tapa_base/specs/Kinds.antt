-- The kinds of integers, as in C++: their widths, their signs, and the kind in which two of them meet.
use Rattle.std.specs.Prelude.{ℕ, ◌-◌, ◌^◌, ◌%◌, ℤ, pos, negsuc, ◌-ℤ◌, Bool, true, false, if◌then◌else◌, ◌&&◌, nat_le, ◌==◌}
use Rattle.tapa_base.specs.declared.kind.Kind.{Kind}
use Rattle.tapa_base.specs.declared.kind.Kind.TheVariants as kind

abbrev pub bits_of : Kind → ℕ
bits_of kind.Bool = 1
bits_of kind.I8 = 8
bits_of kind.U8 = 8
bits_of kind.I16 = 16
bits_of kind.U16 = 16
bits_of kind.I32 = 32
bits_of kind.U32 = 32
bits_of kind.I64 = 64
bits_of kind.U64 = 64

abbrev pub is_signed : Kind → Bool
is_signed kind.I8 = true
is_signed kind.I16 = true
is_signed kind.I32 = true
is_signed kind.I64 = true
is_signed k = false

-- what is narrower than an int becomes one
abbrev pub promoted : Kind → Kind
promoted kind.U32 = kind.U32
promoted kind.I64 = kind.I64
promoted kind.U64 = kind.U64
promoted k = kind.I32

-- of two promoted kinds
abbrev pub met : Kind → Kind → Kind
met kind.U64 k = kind.U64
met kind.I64 kind.U64 = kind.U64
met kind.I64 k = kind.I64
met kind.U32 kind.U64 = kind.U64
met kind.U32 kind.I64 = kind.I64
met kind.U32 k = kind.U32
met j k = k

-- the usual arithmetic conversions
abbrev pub joined : Kind → Kind → Kind
joined j k = met (promoted j) (promoted k)

-- how many values a kind has
abbrev pub values_of : Kind → ℕ
values_of k = 2 ^ bits_of k

-- the whole number that the bits of a value denote, by two's complement
abbrev pub number : Kind → ℕ → ℤ
number k n = if is_signed k && nat_le (2 ^ (bits_of k - 1)) n then pos n -ℤ pos (values_of k) else pos n

-- the residue of a whole number modulo m, from 0 to m - 1
abbrev pub residue : ℕ → ℤ → ℕ
residue m (pos n) = n % m
residue m (negsuc n) = m - 1 - n % m

-- a value of the first kind as one of the second
abbrev pub converted : Kind → Kind → ℕ → ℕ
converted from kind.Bool a = if a == 0 then 0 else 1
converted from to a = residue (values_of to) (number from a)
