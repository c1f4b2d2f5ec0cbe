-- The channels of a clocked network, by the numbers at the ports of their modules.
use Rattle.std.specs.Prelude.{◌≡◌, ℕ, suc, Bool, true, false, ◌==◌}
use Rattle.vlog_tree.specs.Environment.{token_of}
use Rattle.kahn_model.specs.Network.{Network}
use Rattle.hw_channel_laws.specs.signals.Contract.{ChannelPorts, MeetsContract as OwesContract}
use Rattle.hw_lines.specs.Signals.{Streams, History, Part}
use Rattle.hw_lines.specs.Machine.{RunsMachine}
use Rattle.hw_network_laws.specs.network.Channel.{KeepsContract}

-- the signals of a channel whose tokens have `bits` bits are those of stream s
pub record AreSignals (bits s : ℕ) (c : ChannelPorts) (S : Streams) : Type 0 where
  pub has : (n : ℕ) → S.has s n ≡ (c.has n == 1)
  pub dout : (n : ℕ) → S.dout s n ≡ token_of bits (c.dout n)
  pub take : (n : ℕ) → S.take s n ≡ (c.take n == 1)
  pub rdy : (n : ℕ) → S.rdy s n ≡ (c.rdy n == 1)
  pub wr : (n : ℕ) → S.wr s n ≡ (c.wr n == 1)
  pub din : (n : ℕ) → S.din s n ≡ token_of bits (c.din n)

-- nothing is taken that is not there
abbrev pub TakesOffers : ℕ → Streams → Type 0
TakesOffers s S = (n : ℕ) → S.take s (suc n) ≡ true → S.has s (suc n) ≡ true

abbrev pub ChannelsMeetContract : Type 0
ChannelsMeetContract =
    (bits depth late s : ℕ) (c : ChannelPorts) (S : Streams) → AreSignals bits s c S → TakesOffers s S → OwesContract depth late c → KeepsContract S s depth late

abbrev pub MachinesTakeOffers : Type 0
MachinesTakeOffers =
    (part : Part) (net : Network) (i : ℕ) (S : Streams) (answers : ℕ → ℕ → Bool) (h : History)
    → RunsMachine part S answers (λ s. net.consumer s ≡ i) (λ s. net.producer s ≡ i) h → (s : ℕ) → net.consumer s ≡ i → TakesOffers s S

-- nothing moves there from cycle 1 on
pub record IsStill (s : ℕ) (S : Streams) : Type 0 where
  pub has : (n : ℕ) → S.has s (suc n) ≡ false
  pub take : (n : ℕ) → S.take s (suc n) ≡ false
  pub rdy : (n : ℕ) → S.rdy s (suc n) ≡ false

abbrev pub StillStreamsMeetContract : Type 0
StillStreamsMeetContract = (s late : ℕ) (S : Streams) → IsStill s S → KeepsContract S s 0 late
