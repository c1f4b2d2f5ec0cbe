-- The end of a network at its declared depths, within a bound on ticks. A stream has no more tokens than its depth (TAPA, streams). A run waits for the
-- instances that are not detached; a detached one continues as long as it can (TAPA, `invoke<tapa::detach>`).
use Rattle.std.specs.Prelude.{◌≡◌, ◌⊎◌, ℕ, ◌<◌, ◌≤◌, List, [], length, false, if◌then◌else◌, Some}
use Rattle.tapa_base.specs.declared.token.Token.{Token}
use Rattle.kahn_model.specs.Behavior.{Did, Put, TraceEnd, Needs, Bad, ticks, trace_end}
use Rattle.kahn_model.specs.Network.{Network}
use Rattle.kahn_model.specs.Counts.{total, round_of, written, taken, next, IsAllowed, IsReachable, HasEnded}

-- ---- the greatest count within a bound

-- counts in which no instance has made more than n ticks
abbrev pub IsCapped : Network → ℕ → (ℕ → ℕ) → Type 0
IsCapped net n k = (i : ℕ) → k i ≤ n

-- the greatest reachable count with at most n ticks of each instance
pub record IsGreatest (net : Network) (n : ℕ) (k : ℕ → ℕ) : Type 0 where
  pub reachable : IsReachable net k
  pub capped : IsCapped net n k
  pub above : (m : ℕ → ℕ) → IsReachable net m → IsCapped net n m → (i : ℕ) → m i ≤ k i

-- ---- the instances that are waited for

abbrev pub IsJoined : Network → ℕ → Type 0
IsJoined net i = net.detached i ≡ false

abbrev pub joined_part : Network → (ℕ → ℕ) → ℕ → ℕ
joined_part net k i = if net.detached i then 0 else k i

-- the ticks of the instances that are waited for
abbrev pub joined_ticks : Network → (ℕ → ℕ) → ℕ
joined_ticks net k = total net.size (joined_part net k)

-- each instance that is waited for has made its last tick
abbrev pub HaveJoinedEnded : Network → (ℕ → ℕ) → Type 0
HaveJoinedEnded net k = (i : ℕ) → i < net.size → IsJoined net i → HasEnded net k i

-- some instance that is waited for has not made its last tick
pub record HasJoinedLeft (net : Network) (k : ℕ → ℕ) : Type 0 where
  pub instance : ℕ
  pub inside : instance < net.size
  pub joined : IsJoined net instance
  pub goes_on : HasEnded net k instance → ⊥

-- ---- the outcome for the bound n, by the greatest count k

-- every instance that is waited for has ended, and they have made at most n ticks in all
pub record IsDone (net : Network) (n : ℕ) (k : ℕ → ℕ) : Type 0 where
  pub greatest : IsGreatest net n k
  pub ended : HaveJoinedEnded net k
  pub within : joined_ticks net k ≤ n

-- no step is allowed, some instance that is waited for has not ended, and they have made at most n ticks in all
pub record IsStopped (net : Network) (n : ℕ) (k : ℕ → ℕ) : Type 0 where
  pub greatest : IsGreatest net n k
  pub over : (i : ℕ) → IsAllowed net k i → ⊥
  pub left : HasJoinedLeft net k
  pub within : joined_ticks net k ≤ n

-- some instance that is waited for has not ended, and a step is allowed
pub record GoesOn (net : Network) (k : ℕ → ℕ) : Type 0 where
  pub left : HasJoinedLeft net k
  pub instance : ℕ
  pub allowed : IsAllowed net k instance

-- neither done nor stopped: the instances that are waited for have made more than n ticks in all, or go on
pub record IsPast (net : Network) (n : ℕ) (k : ℕ → ℕ) : Type 0 where
  pub greatest : IsGreatest net n k
  pub more : (n < joined_ticks net k) ⊎ GoesOn net k

-- ---- what is shown, and what is waited for

-- the tokens of stream s that a run shows where every instance that is waited for has ended: those that are written where its
-- producer is waited for, else those that are taken where its consumer is, else none
abbrev pub shown : Network → (ℕ → ℕ) → ℕ → List Token
shown net k s = if net.detached (net.producer s) then (if net.detached (net.consumer s) then [] else taken net k s) else written net k s

-- instance i waits to write s
abbrev pub WaitsToWrite : Network → (ℕ → ℕ) → ℕ → ℕ → Type 0
WaitsToWrite net k i s = (t : Token) × (next net k i ≡ Some (Did (Put s t)))

-- its run on the tokens that are written stops here with this end
pub record StandsAt (net : Network) (k : ℕ → ℕ) (i : ℕ) (m : TraceEnd) : Type 0 where
  pub all : length (ticks (net.job i (round_of net k)) (written net k)) ≡ k i
  pub at : trace_end (net.job i (round_of net k)) (written net k) ≡ m

abbrev pub WaitsToRead : Network → (ℕ → ℕ) → ℕ → ℕ → Type 0
WaitsToRead net k i s = StandsAt net k i (Needs s)

abbrev pub HasBadToken : Network → (ℕ → ℕ) → ℕ → ℕ → Type 0
HasBadToken net k i s = StandsAt net k i (Bad s)
