-- What a channel guarantees to its producer and its consumer.
use Rattle.std.specs.Prelude.{◌≡◌, ℕ, ◌+◌, ◌-◌, ◌*◌, ◌<◌, ◌≤◌, List, length, slice_get, Some, nat_lt, ◌&&◌}
use Rattle.tapa_base.specs.Operators.{bit}
use Rattle.hw_channel_laws.specs.signals.Signals.{Signal, both, carried_before, times, ones}

pub record ChannelPorts : Type 0 where
  pub din : Signal
  pub wr : Signal
  pub rdy : Signal
  pub has : Signal
  pub dout : Signal
  pub take : Signal

-- the tokens that are written in the cycles from 1 on before cycle n
abbrev pub written : ChannelPorts → ℕ → List ℕ
written c n = carried_before (both c.wr c.rdy) c.din n

-- how many tokens are taken in these cycles
abbrev pub taken : ChannelPorts → ℕ → ℕ
taken c n = times (both c.take c.has) n

-- The contract for a depth and an added latency, in each cycle n from 1 on. `room`: the tokens that are written and not
-- taken, and the ready answers of 1 that the producer sees in the cycles n to n + late, are at most depth + 2 * late.
pub record MeetsContract (depth late : ℕ) (c : ChannelPorts) : Type 0 where
  pub order : (n : ℕ) → 0 < n → taken c n ≤ length (written c (n - late))
  pub ready : (n : ℕ) → 0 < n → c.rdy n ≡ bit (nat_lt late n && nat_lt (length (written c (n - 2 * late))) (taken c (n - late) + depth))
  pub offer : (n : ℕ) → 0 < n → c.has n ≡ bit (nat_lt (taken c n) (length (written c (n - late))))
  pub token : (n : ℕ) → 0 < n → taken c n < length (written c (n - late)) → slice_get (written c n) (taken c n) ≡ Some (c.dout n)
  pub room : (n : ℕ) → 0 < n → length (written c n) + ones c.rdy n (late + 1) ≤ taken c n + depth + 2 * late
