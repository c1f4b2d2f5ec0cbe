-- Counts by clock cycles: when each instance makes its ticks over channels with latency.
use Rattle.std.specs.Prelude.{◌≡◌, ◌-◌, ◌*◌, ◌≤◌, ◌∷◌, ◌&&◌, if◌then◌else◌}
use Rattle.std.specs.Prelude.{ℕ, zero, suc, List, [], length, get_or, Bool, true, false, not, nat_lt, Option, Some, None}
use Rattle.kahn_model.specs.Behavior.{Local, Put, Load, Store, Tick, Did, Take, See, End}
use Rattle.kahn_model.specs.Network.{Network}
use Rattle.kahn_model.specs.Counts.{written, taken, next, zeros}

-- the added latency of each stream, and whether a memory answers: by instance, the memory's position among those of the instance, and cycle
pub record Clock : Type 0 where
  pub latency : ℕ → ℕ
  pub answers : ℕ → ℕ → ℕ → Bool

-- the count d cycles ago, from a list of the counts so far, the newest first
abbrev pub ago : List (ℕ → ℕ) → ℕ → ℕ → ℕ
ago past d = get_or past d zeros

-- Whether the tick is made in cycle n, by the counts so far. A Put sees room after a round trip of twice the latency, and none in the
-- first `latency` cycles.
abbrev pub tick_moves : Network → Clock → ℕ → List (ℕ → ℕ) → ℕ → Tick → Bool
tick_moves net clock n past i (Take s t) = nat_lt (length (taken net (ago past 0) s)) (length (written net (ago past (clock.latency s)) s))
tick_moves net clock n past i (See s t) = nat_lt (length (taken net (ago past 0) s)) (length (written net (ago past (clock.latency s)) s))
tick_moves net clock n past i (Did (Put s t)) =
    nat_lt (clock.latency s) n && nat_lt (length (written net (ago past (2 * clock.latency s)) s) - length (taken net (ago past (clock.latency s)) s)) (net.depth s)
tick_moves net clock n past i (Did (Load m a)) = clock.answers i m n
tick_moves net clock n past i (Did (Store m a v)) = clock.answers i m n
tick_moves net clock n past i (Did Local) = true
tick_moves net clock n past i End = true

abbrev pub next_moves : Network → Clock → ℕ → List (ℕ → ℕ) → ℕ → Option Tick → Bool
next_moves net clock n past i None = false
next_moves net clock n past i (Some t) = tick_moves net clock n past i t

-- the instance makes its next tick in cycle n
abbrev pub moves : Network → Clock → ℕ → List (ℕ → ℕ) → ℕ → Bool
moves net clock n past i = nat_lt 0 n && (nat_lt i net.size && next_moves net clock n past i (next net (ago past 0) i))

-- the counts before the cycles n, n - 1 and so on down to 1
abbrev pub past_of : Network → Clock → ℕ → List (ℕ → ℕ)
past_of net clock zero = []
past_of net clock (suc n) =
    (λ i. if moves net clock n (past_of net clock n) i then suc (ago (past_of net clock n) 0 i) else ago (past_of net clock n) 0 i) ∷ past_of net clock n

-- the count before cycle n
abbrev pub count_at : Network → Clock → ℕ → ℕ → ℕ
count_at net clock n = ago (past_of net clock n) 0

-- the number of cycles from 1 to before n in which some memory does not answer
abbrev pub lost : (ℕ → Bool) → ℕ → ℕ
lost ready zero = 0
lost ready (suc n) = if nat_lt 0 n && not (ready n) then suc (lost ready n) else lost ready n

-- the least that is known of a clock: the greatest latency, the cycles in which every memory answers, and how many
-- others there are at most
pub record IsClock (clock : Clock) (top : ℕ) (ready : ℕ → Bool) (waits : ℕ) : Type 0 where
  pub latest : (s : ℕ) → clock.latency s ≤ top
  pub answered : (n : ℕ) → ready n ≡ true → (i m : ℕ) → clock.answers i m n ≡ true
  pub few : (n : ℕ) → lost ready n ≤ waits
