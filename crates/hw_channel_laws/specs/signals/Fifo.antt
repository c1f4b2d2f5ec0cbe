-- A FIFO by its printed lines, and what it guarantees as long as it is never written while it is full.
use Rattle.std.specs.Prelude.{◌≡◌, ◌+◌, ◌-◌, ◌%◌, ◌^◌, ◌<◌, ◌≤◌, ◌==◌, ◌&&◌, if◌then◌else◌}
use Rattle.std.specs.Prelude.{ℕ, suc, Bool, true, false, not, List, length, slice_get, Some, nat_lt}
use Rattle.tapa_base.specs.Operators.{bit}
use Rattle.hw_channel_laws.specs.signals.Signals.{Signal, both, Resets, carried_before, times}

pub record FifoPorts : Type 0 where
  pub put : Signal
  pub din : Signal
  pub rdy : Signal
  pub has : Signal
  pub dout : Signal
  pub take : Signal

-- the number of entries, the widths of an entry's index and of the count, and the count below which it is ready
pub record FifoSizes : Type 0 where
  pub places : ℕ
  pub place_bits : ℕ
  pub count_bits : ℕ
  pub depth : ℕ

pub record SizesFit (s : FifoSizes) : Type 0 where
  pub some : 0 < s.depth
  pub within : s.depth ≤ s.places
  pub place_fits : s.places ≤ 2 ^ s.place_bits
  pub count_fits : s.places < 2 ^ s.count_bits

-- the index after p
abbrev pub next_place : FifoSizes → ℕ → ℕ
next_place s p = if p == s.places - 1 then 0 else (p + 1) % 2 ^ s.place_bits

abbrev pub next_count : FifoSizes → (put pop : Bool) → ℕ → ℕ
next_count s put pop count = if pop && not put then (count + 2 ^ s.count_bits - 1) % 2 ^ s.count_bits else if put && not pop then (count + 1) % 2 ^ s.count_bits else count

-- whether a token is put in, and whether one is taken out
abbrev pub puts : FifoPorts → ℕ → Bool
puts f n = f.put n == 1

abbrev pub pops : FifoPorts → ℕ → Bool
pops f n = both f.take f.has n

-- registers head, tail and count, and cells by cycle and index, with any first contents
pub record IsFifo (s : FifoSizes) (rst : Signal) (f : FifoPorts) : Type 0 where
  pub head : Signal
  pub tail : Signal
  pub count : Signal
  pub cells : ℕ → ℕ → ℕ
  pub rdy_is : (n : ℕ) → f.rdy n ≡ bit (nat_lt (count n) s.depth)
  pub has_is : (n : ℕ) → f.has n ≡ bit (if count n == 0 then false else true)
  pub dout_is : (n : ℕ) → f.dout n ≡ (if nat_lt (head n) s.places then cells n (head n) else 0)
  pub head_goes : (n : ℕ) → head (suc n) ≡ (if rst n == 1 then 0 else if pops f n then next_place s (head n) else head n)
  pub tail_goes : (n : ℕ) → tail (suc n) ≡ (if rst n == 1 then 0 else if puts f n then next_place s (tail n) else tail n)
  pub count_goes : (n : ℕ) → count (suc n) ≡ (if rst n == 1 then 0 else next_count s (puts f n) (pops f n) (count n))
  pub cells_go : (n a : ℕ) → a < s.places → cells (suc n) a ≡ (if puts f n && (a == tail n) then f.din n else cells n a)

-- the tokens put in, and how many were taken out, in the cycles from 1 on before cycle n
abbrev pub entered : FifoPorts → ℕ → List ℕ
entered f n = carried_before (puts f) f.din n

abbrev pub gone : FifoPorts → ℕ → ℕ
gone f n = times (pops f) n

-- a token comes in only where there is a free entry for it
abbrev pub HasRoom : ℕ → FifoPorts → ℕ → Type 0
HasRoom places f n = f.put n ≡ 1 → length (entered f n) < gone f n + places

-- what it guarantees in cycle n
pub record KeepsOrder (depth : ℕ) (f : FifoPorts) (n : ℕ) : Type 0 where
  pub order : gone f n ≤ length (entered f n)
  pub ready : f.rdy n ≡ bit (nat_lt (length (entered f n)) (gone f n + depth))
  pub offer : f.has n ≡ bit (nat_lt (gone f n) (length (entered f n)))
  pub token : gone f n < length (entered f n) → slice_get (entered f n) (gone f n) ≡ Some (f.dout n)

-- it guarantees this in each cycle before which it was never written while it was full
abbrev pub FifoLaw : Type 0
FifoLaw =
    (s : FifoSizes) → SizesFit s → (rst : Signal) → Resets rst → (f : FifoPorts) → IsFifo s rst f → (n : ℕ) → 0 < n → ((m : ℕ) → 0 < m → m < n → HasRoom s.places f m)
    → KeepsOrder s.depth f n
