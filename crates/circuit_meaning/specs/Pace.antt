-- How far timed counts can be delayed, how many tokens a stream can have in flight, and when timed counts pass a reachable count.
use Rattle.std.specs.Prelude.{◌≡◌, ℕ, zero, suc, ◌+◌, ◌-◌, ◌*◌, ◌<◌, ◌≤◌, length, Bool, true, false, ◌&&◌, nat_lt, Option, Some, None}
use Rattle.tapa_base.specs.Operators.{bit}
use Rattle.kahn_model.specs.declared.tick.Action.TheVariants.{Local, Put, Load, Store}
use Rattle.kahn_model.specs.declared.tick.Tick.{Tick}
use Rattle.kahn_model.specs.declared.tick.Tick.TheVariants.{Did, Take, See, End}
use Rattle.kahn_model.specs.Network.{Network, IsNetwork}
use Rattle.kahn_model.specs.Counts.{total, written, taken, next, IsAllowed, IsReachable}
use Rattle.kahn_model.specs.Timed.{Clock, count_at}

-- the memory that a tick waits for
abbrev pub memory_of : Tick → Option ℕ
memory_of (Did (Load m a)) = Some m
memory_of (Did (Store m a v)) = Some m
memory_of (Did Local) = None
memory_of (Did (Put s t)) = None
memory_of (Take s t) = None
memory_of (See s t) = None
memory_of End = None

-- instance i makes its next tick of cycle n in cycle m
pub record MakesIn (net : Network) (clock : Clock) (n i m : ℕ) : Type 0 where
  pub before : count_at net clock m i ≡ count_at net clock n i
  pub made : count_at net clock (suc m) i ≡ suc (count_at net clock n i)

-- whether stream s says in cycle m that it is ready: by the tokens that were written a latency ago, and those that were taken
abbrev pub is_ready : Network → Clock → ℕ → ℕ → Bool
is_ready net clock s m =
    nat_lt 0 m && nat_lt (length (written net (count_at net clock (m - clock.latency s)) s) - length (taken net (count_at net clock m) s)) (net.depth s)

-- the number of cycles from n - d to n in which `holds` is true, if it is false in cycle 0
abbrev pub times : (ℕ → Bool) → ℕ → ℕ → ℕ
times holds n zero = bit (holds n)
times holds n (suc d) = times holds n d + bit (holds (n - suc d))

-- The number of ready answers of stream s that its producer did not see before cycle n: an answer is in flight for the cycles of the latency.
abbrev pub on_their_way : Network → Clock → ℕ → ℕ → ℕ
on_their_way net clock s n = times (is_ready net clock s) n (clock.latency s)

-- Timed counts keep pace if no latency is greater than `top`.
pub record KeepsPace (net : Network) (clock : Clock) (top : ℕ) : Type 0 where
  -- an allowed tick that waits for no memory is made in one of the cycles from n to n + top
  pub soon :
      (n i : ℕ) → 1 ≤ n → (allowed : IsAllowed net (count_at net clock n) i) → memory_of allowed.supplied.tick ≡ None
      → (m : ℕ) × (n ≤ m) × (m ≤ n + top) × MakesIn net clock n i m
  -- an allowed Load or Store is made in the first cycle from n on in which its memory answers
  pub answered :
      (n i x m : ℕ) → 1 ≤ n → (allowed : IsAllowed net (count_at net clock n) i) → memory_of allowed.supplied.tick ≡ Some x → n ≤ m
      → ((j : ℕ) → n ≤ j → j < m → clock.answers i x j ≡ false) → clock.answers i x m ≡ true → MakesIn net clock n i m
  -- the tokens that are written and not taken, with the answers in flight, are at most the depth and twice the latency
  pub few : (s n : ℕ) → length (written net (count_at net clock n) s) - length (taken net (count_at net clock n) s) + on_their_way net clock s n ≤ net.depth s + 2 * clock.latency s

-- For every network, timed counts keep pace.
abbrev pub TimedCountsKeepPace : Type 0
TimedCountsKeepPace = (net : Network) → IsNetwork net → (clock : Clock) (top : ℕ) → ((s : ℕ) → clock.latency s ≤ top) → KeepsPace net clock top

-- ---- requests that are answered soon

-- If the next tick of an instance waits for a memory in cycle n, that memory answers in one of the cycles from n to n + late.
abbrev pub AreAnswered : Network → Clock → ℕ → Type 0
AreAnswered net clock late =
    (n i x : ℕ) (t : Tick) → 1 ≤ n → next net (count_at net clock n) i ≡ Some t → memory_of t ≡ Some x
    → (m : ℕ) × (n ≤ m) × (m ≤ n + late) × (clock.answers i x m ≡ true)

-- If a tick is allowed in cycle n, it is made in one of the cycles from n to n + late.
abbrev pub IsPrompt : Network → Clock → ℕ → Type 0
IsPrompt net clock late =
    (n i : ℕ) → 1 ≤ n → IsAllowed net (count_at net clock n) i → (m : ℕ) × (n ≤ m) × (m ≤ n + late) × MakesIn net clock n i m

-- Timed counts are prompt, and pass each reachable count in time.
pub record ArePrompt (net : Network) (clock : Clock) (late : ℕ) : Type 0 where
  pub prompt : IsPrompt net clock late
  -- a reachable count of `total` ticks is passed in a cycle of at most 1 + total * (late + 1)
  pub passes : (k : ℕ → ℕ) → IsReachable net k → (n : ℕ) × (1 ≤ n) × (n ≤ 1 + total net.size k * suc late) × ((i : ℕ) → k i ≤ count_at net clock n i)

-- For every network, timed counts are prompt if no latency is greater than `late` and each request is answered within `late` cycles.
abbrev pub AnsweredCountsArePrompt : Type 0
AnsweredCountsArePrompt =
    (net : Network) → IsNetwork net → (clock : Clock) (late : ℕ) → ((s : ℕ) → clock.latency s ≤ late) → AreAnswered net clock late → ArePrompt net clock late
