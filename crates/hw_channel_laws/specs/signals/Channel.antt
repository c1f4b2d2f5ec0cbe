-- A channel of a relay and a FIFO, and its laws.
use Rattle.std.specs.Prelude.{◌≡◌, ℕ, ◌+◌, ◌*◌, ◌<◌}
use Rattle.tapa_base.specs.Operators.{bit}
use Rattle.hw_channel_laws.specs.signals.Signals.{Signal, both, Resets}
use Rattle.hw_channel_laws.specs.signals.Contract.{ChannelPorts, MeetsContract}
use Rattle.hw_channel_laws.specs.signals.Fifo.{FifoPorts, FifoSizes, SizesFit, IsFifo, HasRoom}
use Rattle.hw_channel_laws.specs.signals.Relay.{RelayPorts, IsRelay}

-- a FIFO that is written exactly where the producer writes and it is ready
pub record IsPlain (c : ChannelPorts) (f : FifoPorts) : Type 0 where
  pub put_is : (n : ℕ) → f.put n ≡ bit (both c.wr c.rdy n)
  pub din_is : (n : ℕ) → f.din n ≡ c.din n
  pub rdy_is : (n : ℕ) → c.rdy n ≡ f.rdy n
  pub has_is : (n : ℕ) → c.has n ≡ f.has n
  pub dout_is : (n : ℕ) → c.dout n ≡ f.dout n
  pub take_is : (n : ℕ) → f.take n ≡ c.take n

-- The relay is between the producer and the FIFO, which takes what comes without asking.
pub record IsJoined (c : ChannelPorts) (p : RelayPorts) (f : FifoPorts) : Type 0 where
  pub put_is : (n : ℕ) → p.put n ≡ bit (both c.wr c.rdy n)
  pub din_is : (n : ℕ) → p.din n ≡ c.din n
  pub rdy_is : (n : ℕ) → c.rdy n ≡ p.rdy n
  pub put_late : (n : ℕ) → f.put n ≡ p.put_late n
  pub din_late : (n : ℕ) → f.din n ≡ p.din_late n
  pub rdy_early : (n : ℕ) → p.rdy_early n ≡ f.rdy n
  pub has_is : (n : ℕ) → c.has n ≡ f.has n
  pub dout_is : (n : ℕ) → c.dout n ≡ f.dout n
  pub take_is : (n : ℕ) → f.take n ≡ c.take n

-- a channel of a depth and an added latency, from any first contents of its registers and cells
pub record IsChannel (depth late : ℕ) (rst : Signal) (c : ChannelPorts) (p : RelayPorts) (f : FifoPorts) : Type 0 where
  pub sizes : FifoSizes
  pub fits : SizesFit sizes
  pub depth_is : sizes.depth ≡ depth
  pub places_are : sizes.places ≡ depth + 2 * late
  pub relay : IsRelay rst late p
  pub fifo : IsFifo sizes rst f
  pub joined : IsJoined c p f

abbrev pub PlainLaw : Type 0
PlainLaw = (s : FifoSizes) → SizesFit s → (rst : Signal) → Resets rst → (c : ChannelPorts) (f : FifoPorts) → IsPlain c f → IsFifo s rst f → MeetsContract s.depth 0 c

abbrev pub ChannelLaw : Type 0
ChannelLaw = (depth late : ℕ) (rst : Signal) → Resets rst → (c : ChannelPorts) (p : RelayPorts) (f : FifoPorts) → IsChannel depth late rst c p f → MeetsContract depth late c

-- the FIFO of a channel is never written while it is full
abbrev pub RoomLaw : Type 0
RoomLaw =
    (depth late : ℕ) (rst : Signal) → Resets rst → (c : ChannelPorts) (p : RelayPorts) (f : FifoPorts) → IsChannel depth late rst c p f → (n : ℕ) → 0 < n
    → HasRoom (depth + 2 * late) f n

-- the equations can be met: there is a channel for every producer, every consumer and all sizes
pub record HasChannel (depth late : ℕ) (rst wr din take : Signal) : Type 0 where
  pub c : ChannelPorts
  pub p : RelayPorts
  pub f : FifoPorts
  pub is : IsChannel depth late rst c p f
  pub wr_is : (n : ℕ) → c.wr n ≡ wr n
  pub din_is : (n : ℕ) → c.din n ≡ din n
  pub take_is : (n : ℕ) → c.take n ≡ take n

abbrev pub ExistsLaw : Type 0
ExistsLaw = (s : FifoSizes) (late : ℕ) → SizesFit s → s.places ≡ s.depth + 2 * late → (rst wr din take : Signal) → HasChannel s.depth late rst wr din take
