-- How printed lines become the equations: bits, the last index, and cells past the end.
use Rattle.std.specs.Prelude.{◌≡◌, ℕ, ◌+◌, ◌-◌, ◌%◌, ◌^◌, ◌<◌, Bool, not, bit_and, nat_lt, ◌==◌, ◌&&◌, if◌then◌else◌}
use Rattle.tapa_base.specs.Operators.{bit}
use Rattle.hw_channel_laws.specs.signals.Fifo.{FifoSizes, next_place}

-- `a & b` and `~ a` at nets of one bit, and a test for 1 of a bit
pub record BitsAre (a b : ℕ) : Type 0 where
  pub both_are : bit_and a b ≡ bit ((a == 1) && (b == 1))
  pub inverse_is : 2 ^ 1 - 1 - a ≡ bit (not (a == 1))

abbrev pub BitsLaw : Type 0
BitsLaw = (a b : ℕ) → a < 2 → b < 2 → BitsAre a b

abbrev pub TestLaw : Type 0
TestLaw = (t : Bool) → (bit t == 1) ≡ t

-- the line for the next index where there are 2 ^ place_bits entries, where there is one entry, and in general
pub record NextPlaceIs (s : FifoSizes) (p : ℕ) : Type 0 where
  pub all : s.places ≡ 2 ^ s.place_bits → (p + 1) % 2 ^ s.place_bits ≡ next_place s p
  pub one : s.places ≡ 1 → s.place_bits ≡ 1 → p < 2 → 0 ≡ next_place s p
  pub some : (if bit (p == s.places - 1) == 1 then 0 else (p + 1) % 2 ^ s.place_bits) ≡ next_place s p

abbrev pub NextPlaceLaw : Type 0
NextPlaceLaw = (s : FifoSizes) (p : ℕ) → NextPlaceIs s p

-- a store past the end changes none of the cells
abbrev pub StoreLaw : Type 0
StoreLaw = (places a place : ℕ) → a < places → ((a == place) && nat_lt place places) ≡ (a == place)
