-- What conversions and shifts make of words of bits (ISO C++ [conv.integral], [expr.shift]).
use Rattle.std.specs.Prelude.{◌≡◌, ℕ, ◌+◌, ◌-◌, ◌*◌, ◌/◌, ◌%◌, ◌^◌, ◌<◌, ◌≤◌, Bool, ◌&&◌, nat_le, if◌then◌else◌}
use Rattle.tapa_base.specs.declared.kind.Kind.{Kind}
use Rattle.tapa_base.specs.declared.kind.Kind.TheVariants as kind
use Rattle.tapa_base.specs.declared.op.Op.TheVariants.{Shl, Shr}
use Rattle.tapa_base.specs.Kinds.{bits_of, is_signed, values_of, converted}
use Rattle.tapa_base.specs.Operators.{applied}

-- the number whose only bit is a kind's highest
abbrev pub half_of : Kind → ℕ
half_of k = 2 ^ (bits_of k - 1)

-- whether a word of a kind denotes a negative number
abbrev pub is_negative : Kind → ℕ → Bool
is_negative k a = is_signed k && nat_le (half_of k) a

-- to a kind of no more bits, other than Bool, the lowest bits
abbrev pub CutsWords : Type 0
CutsWords = (s t : Kind) (a : ℕ) → a < values_of s → (t ≡ kind.Bool → ⊥) → bits_of t ≤ bits_of s → converted s t a ≡ a % values_of t

-- to a kind of no fewer bits: extended by the sign
abbrev pub ExtendsWords : Type 0
ExtendsWords =
    (s t : Kind) (a : ℕ) → a < values_of s → (t ≡ kind.Bool → ⊥) → bits_of s ≤ bits_of t → converted s t a ≡ (if is_negative s a then values_of t - values_of s + a else a)

abbrev pub ShiftsWordsLeft : Type 0
ShiftsWordsLeft = (k : Kind) (a b : ℕ) → applied Shl k a b ≡ (a * 2 ^ b) % values_of k

-- a negative word is shifted with its bits turned
abbrev pub ShiftsWordsRight : Type 0
ShiftsWordsRight =
    (k : Kind) (a b : ℕ) → a < values_of k → applied Shr k a b ≡ (if is_negative k a then values_of k - 1 - (values_of k - 1 - a) / 2 ^ b else a / 2 ^ b)
