-- The timed counts of a network, row by row: when an instance makes its next tick. A token is seen after its stream's
-- latency, and so is room for one. Counts of cycles below 1 are zeros.
use Rattle.std.specs.Prelude.{◌≡◌, ℕ, suc, ◌-◌, ◌*◌, ◌<◌, ◌≤◌, length, true, Some, slice_get}
use Rattle.kahn_model.specs.declared.tick.Action.TheVariants.{Local, Put, Load, Store}
use Rattle.kahn_model.specs.declared.tick.Tick.{Tick}
use Rattle.kahn_model.specs.declared.tick.Tick.TheVariants.{Did, Take, See, End}
use Rattle.kahn_model.specs.Network.{Network, IsNetwork, round}
use Rattle.kahn_model.specs.Counts.{written, taken}
use Rattle.kahn_model.specs.Timed.{Clock, count_at}

-- instance i makes this next tick in cycle n
abbrev pub IsMadeIn : Network → Clock → ℕ → ℕ → Tick → Type 0
IsMadeIn net clock n i (Take s t) = length (taken net (count_at net clock n) s) < length (written net (count_at net clock (n - clock.latency s)) s)
IsMadeIn net clock n i (See s t) = length (taken net (count_at net clock n) s) < length (written net (count_at net clock (n - clock.latency s)) s)
IsMadeIn net clock n i (Did (Put s t)) =
    (clock.latency s < n) × (length (written net (count_at net clock (n - 2 * clock.latency s)) s) - length (taken net (count_at net clock (n - clock.latency s)) s) < net.depth s)
IsMadeIn net clock n i (Did (Load m a)) = clock.answers i m n ≡ true
IsMadeIn net clock n i (Did (Store m a v)) = clock.answers i m n ≡ true
IsMadeIn net clock n i (Did Local) = Unit {0}
IsMadeIn net clock n i End = Unit {0}

-- the next tick of an instance is the one after those that it has made, in any round that has it
abbrev pub IsNextTick : Network → (ℕ → ℕ) → ℕ → Tick → Type 0
IsNextTick net k i t = (m : ℕ) × (slice_get (round net m i) (k i) ≡ Some t)

pub record GoesByRows (net : Network) (clock : Clock) : Type 0 where
  pub zeros : (n i : ℕ) → n ≤ 1 → count_at net clock n i ≡ 0
  pub one_next : (n i : ℕ) (t u : Tick) → IsNextTick net (count_at net clock n) i t → IsNextTick net (count_at net clock n) i u → t ≡ u
  pub made : (n i : ℕ) (t : Tick) → 1 ≤ n → i < net.size → IsNextTick net (count_at net clock n) i t → IsMadeIn net clock n i t
      → count_at net clock (suc n) i ≡ suc (count_at net clock n i)
  -- in each other case the count stays
  pub stays : (n i : ℕ) → ((t : Tick) → 1 ≤ n → i < net.size → IsNextTick net (count_at net clock n) i t → IsMadeIn net clock n i t → ⊥)
      → count_at net clock (suc n) i ≡ count_at net clock n i

abbrev pub TimedCountsGoByRows : Type 0
TimedCountsGoByRows = (net : Network) → IsNetwork net → (clock : Clock) → GoesByRows net clock
