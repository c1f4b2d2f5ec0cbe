-- A network of machines in clock cycles, and what its cycles have in common with the timed counts.
use Rattle.std.specs.Prelude.{◌≡◌, ℕ, suc, ◌<◌, ◌≤◌, ◌+◌, ◌*◌, [], Bool, true, false}
use Rattle.kahn_model.specs.Behavior.{Behavior}
use Rattle.kahn_model.specs.Trace.{at_streams}
use Rattle.kahn_model.specs.Network.{Network, IsNetwork}
use Rattle.kahn_model.specs.Counts.{ticks_made, written, taken, total, HasEnded, IsReachable, IsKahnPrefix, IsKahnStream}
use Rattle.kahn_model.specs.Timed.{Clock, IsClock, count_at}
use Rattle.task_fsm.specs.Run.{cells_after}
use Rattle.task_fsm.specs.Follows.{Follows}
use Rattle.hw_lines.specs.Signals.{Streams, History, Part}
use Rattle.hw_lines.specs.Machine.{RunsMachine, steps_before, put_in}
use Rattle.hw_network_laws.specs.network.Channel.{carried, drawn, KeepsContract}

-- the part follows the job, at the streams of its ports
abbrev pub IsPartOf : (ℕ → Behavior) → Part → Type 0
IsPartOf job part = (m : ℕ) → (b : Behavior) × (job m ≡ at_streams part.bound b) × Follows part.places [] b 0 part.first

pub record IsClocked (net : Network) (clock : Clock) (parts : ℕ → Part) (S : Streams) (h : ℕ → History) : Type 0 where
  pub network : IsNetwork net
  pub follows : (i : ℕ) → i < net.size → IsPartOf (net.job i) (parts i)
  pub runs :
      (i : ℕ) → i < net.size → RunsMachine (parts i) S (clock.answers i) (λ s. net.consumer s ≡ i) (λ s. net.producer s ≡ i) (h i)
  pub channels : (s : ℕ) → KeepsContract S s (net.depth s) (clock.latency s)
  -- nothing comes from outside, and nothing goes there
  pub put_inside : (s n : ℕ) → net.size ≤ net.producer s → put_in S s (suc n) ≡ []
  pub taken_inside : (s n : ℕ) → net.size ≤ net.consumer s → S.take s (suc n) ≡ false

-- before cycle n the streams have carried what the count of the clock has
pub record AreCarried (net : Network) (clock : Clock) (S : Streams) (n : ℕ) : Type 0 where
  pub put : (s : ℕ) → carried S s n ≡ written net (count_at net clock n) s
  pub took : (s : ℕ) → drawn S s n ≡ taken net (count_at net clock n) s

-- and instance i has made the count's ticks, has ended where the count has, and its memories have the cells after its stores
pub record IsInStep (net : Network) (clock : Clock) (part : Part) (S : Streams) (i : ℕ) (h : History) (n : ℕ) : Type 0 where
  pub count : steps_before part S (clock.answers i) h n ≡ count_at net clock n i
  pub ended : h.ended n ≡ true → HasEnded net (count_at net clock n) i
  pub only : HasEnded net (count_at net clock n) i → h.ended n ≡ true
  pub cells : (h.holds n).cells ≡ cells_after (ticks_made net (count_at net clock n) i) part.first.cells

-- all of it
abbrev pub ClockedNetworksKeepTime : Type 0
ClockedNetworksKeepTime =
    (net : Network) (clock : Clock) (parts : ℕ → Part) (S : Streams) (h : ℕ → History) → IsClocked net clock parts S h → (n : ℕ) → AreCarried net clock S (suc n)
    × ((i : ℕ) → i < net.size → IsInStep net clock (parts i) S i (h i) (suc n))

-- so the streams carry what is Kahn's, all of it where the writer has ended, and what ends in a reachable count has ended
-- after a bounded number of cycles
pub record CarriesKahn (net : Network) (clock : Clock) (S : Streams) (h : ℕ → History) : Type 0 where
  pub begins : (s n : ℕ) → IsKahnPrefix net s (carried S s (suc n))
  pub whole : (s n : ℕ) → net.producer s < net.size → (h (net.producer s)).ended (suc n) ≡ true → IsKahnStream net s (carried S s (suc n))
  pub in_time :
      (top : ℕ) (ready : ℕ → Bool) (waits : ℕ) → IsClock clock top ready waits → (k : ℕ → ℕ) → IsReachable net k → (n : ℕ) × (1 ≤ n)
      × (n ≤ 1 + total net.size k * suc top + waits) × ((i : ℕ) → i < net.size → HasEnded net k i → (h i).ended n ≡ true)

abbrev pub ClockedNetworksCarryKahn : Type 0
ClockedNetworksCarryKahn =
    (net : Network) (clock : Clock) (parts : ℕ → Part) (S : Streams) (h : ℕ → History) → IsClocked net clock parts S h → CarriesKahn net clock S h
