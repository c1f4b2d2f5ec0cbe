-- How words in two's complement are compared and divided (ISO C++ [expr.rel], [expr.mul]).
use Rattle.std.specs.Prelude.{◌≡◌, ℕ, ◌+◌, ◌-◌, ◌/◌, ◌%◌, ◌<◌, Bool, true, false, nat_lt, not, bit_xor, ℤ, if◌then◌else◌}
use Rattle.std.specs.Int.RustNames.{int_lt, int_le}
use Rattle.tapa_base.specs.declared.kind.Kind.{Kind}
use Rattle.tapa_base.specs.declared.op.Op.TheVariants.{Div, Rem}
use Rattle.tapa_base.specs.Kinds.{is_signed, values_of, number}
use Rattle.tapa_base.specs.Operators.{applied}
use Rattle.hw_task_laws.specs.words.Words.{half_of, is_negative}

abbrev pub OrdersWords : Type 0
OrdersWords = (k : Kind) (a b : ℕ) → is_signed k ≡ false → int_lt (number k a) (number k b) ≡ nat_lt a b

-- with the highest bits turned
abbrev pub OrdersTurnedWords : Type 0
OrdersTurnedWords =
    (k : Kind) (a b : ℕ) → is_signed k ≡ true → a < values_of k → b < values_of k → int_lt (number k a) (number k b) ≡ nat_lt (bit_xor a (half_of k)) (bit_xor b (half_of k))

abbrev pub NotAboveIsNotBelow : Type 0
NotAboveIsNotBelow = (x y : ℤ) → int_le x y ≡ not (int_lt y x)

-- the absolute value of the number that a word denotes
abbrev pub absolute : Kind → ℕ → ℕ
absolute k a = if is_negative k a then values_of k - a else a

-- a word or its opposite
abbrev pub opposite_if : Bool → Kind → ℕ → ℕ
opposite_if turn k a = if turn then (values_of k - a) % values_of k else a

abbrev pub differ : Bool → Bool → Bool
differ true b = not b
differ false b = b

abbrev pub DividesWords : Type 0
DividesWords =
    (k : Kind) (a b : ℕ) → a < values_of k → b < values_of k → 0 < b → applied Div k a b ≡ opposite_if (differ (is_negative k a) (is_negative k b)) k (absolute k a / absolute k b)

abbrev pub LeavesWords : Type 0
LeavesWords = (k : Kind) (a b : ℕ) → a < values_of k → b < values_of k → 0 < b → applied Rem k a b ≡ opposite_if (is_negative k a) k (absolute k a % absolute k b)
