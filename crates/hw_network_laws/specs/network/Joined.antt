-- When a network is done: a run waits for all its instances but the detached ones (TAPA, `invoke<tapa::detach>`).
use Rattle.std.specs.Prelude.{◌≡◌, ℕ, suc, ◌<◌, ◌≤◌, ◌+◌, ◌*◌, Bool, true}
use Rattle.kahn_model.specs.Network.{Network}
use Rattle.kahn_model.specs.Counts.{IsKahnPrefix, IsKahnStream}
use Rattle.kahn_model.specs.Outcome.{IsJoined, HaveJoinedEnded, IsDone, shown}
use Rattle.kahn_model.specs.Ending.{IsLeastToEnd}
use Rattle.kahn_model.specs.Timed.{Clock, IsClock, count_at}
use Rattle.hw_lines.specs.Signals.{Streams, History, Part}
use Rattle.hw_network_laws.specs.network.Channel.{carried}
use Rattle.hw_network_laws.specs.network.Clocked.{IsClocked}

-- before cycle n every instance that is waited for has ended
abbrev pub AreJoinedOver : Network → (ℕ → History) → ℕ → Type 0
AreJoinedOver net h n = (i : ℕ) → i < net.size → IsJoined net i → (h i).ended n ≡ true

pub record DoneIsOfJoined (net : Network) (clock : Clock) (S : Streams) (h : ℕ → History) : Type 0 where
  -- from cycle 1 on they have ended exactly where they have in the count of the clock
  pub told : (n : ℕ) → 1 ≤ n → AreJoinedOver net h n → HaveJoinedEnded net (count_at net clock n)
  pub only : (n : ℕ) → 1 ≤ n → HaveJoinedEnded net (count_at net clock n) → AreJoinedOver net h n
  pub stays : (n m : ℕ) → 1 ≤ n → n ≤ m → AreJoinedOver net h n → AreJoinedOver net h m
  -- before every cycle each stream has carried a prefix of its Kahn stream, whoever writes it
  pub begins : (s n : ℕ) → IsKahnPrefix net s (carried S s n)
  -- and from then on all of it where its producer is waited for
  pub whole : (s n m : ℕ) → 1 ≤ n → n ≤ m → AreJoinedOver net h n → net.producer s < net.size → IsJoined net (net.producer s) → IsKahnStream net s (carried S s m)
  -- which are the tokens that a run within a bound shows of it where it is done
  pub shows :
      (bound : ℕ) (k : ℕ → ℕ) → IsDone net bound k → (s n m : ℕ) → 1 ≤ n → n ≤ m → AreJoinedOver net h n → net.producer s < net.size → IsJoined net (net.producer s)
      → carried S s m ≡ shown net k s
  -- with the fewest ticks of all instances with which those that are waited for can end, the greatest latency, and the number of
  -- cycles in which some memory does not answer
  pub soon :
      (top : ℕ) (ready : ℕ → Bool) (waits : ℕ) → IsClock clock top ready waits → (a : ℕ) → IsLeastToEnd net a
      → (n : ℕ) × (1 ≤ n) × (n ≤ 1 + a * suc top + waits) × AreJoinedOver net h n
  -- so where a run within some bound is done, they end within the stated number of cycles
  pub in_time :
      (top : ℕ) (ready : ℕ → Bool) (waits : ℕ) → IsClock clock top ready waits → (bound : ℕ) (k : ℕ → ℕ) → IsDone net bound k → (a : ℕ) × IsLeastToEnd net a
      × ((n : ℕ) × (1 ≤ n) × (n ≤ 1 + a * suc top + waits) × AreJoinedOver net h n)

abbrev pub ClockedNetworksAreDone : Type 0
ClockedNetworksAreDone =
    (net : Network) (clock : Clock) (parts : ℕ → Part) (S : Streams) (h : ℕ → History) → IsClocked net clock parts S h → DoneIsOfJoined net clock S h
