-- The outcome of every network within every bound: one of three, and one alone.
use Rattle.std.specs.Prelude.{◌≡◌, ◌⊎◌, ◌↔◌, ℕ, ◌<◌, ◌≤◌}
use Rattle.kahn_model.specs.Network.{Network, IsNetwork}
use Rattle.kahn_model.specs.Counts.{total, IsReachable, IsEnding, HasEnded, IsKahnPrefix, IsKahnStream}
use Rattle.kahn_model.specs.Outcome.{IsJoined, joined_ticks, HaveJoinedEnded, IsDone, IsStopped, IsPast, shown}

abbrev pub EndsWithin : Network → ℕ → Type 0
EndsWithin net n = (k : ℕ → ℕ) × IsDone net n k

abbrev pub StopsWithin : Network → ℕ → Type 0
StopsWithin net n = (k : ℕ → ℕ) × IsStopped net n k

abbrev pub GoesPast : Network → ℕ → Type 0
GoesPast net n = (k : ℕ → ℕ) × IsPast net n k

abbrev pub NetworksRunInThreeWays : Type 0
NetworksRunInThreeWays = (net : Network) → IsNetwork net → (n : ℕ) → EndsWithin net n ⊎ (StopsWithin net n ⊎ GoesPast net n)

pub data Way : Type 0 where
  done : Way
  stopped : Way
  past : Way

abbrev pub RunsSo : Network → ℕ → Way → (ℕ → ℕ) → Type 0
RunsSo net n done k = IsDone net n k
RunsSo net n stopped k = IsStopped net n k
RunsSo net n past k = IsPast net n k

abbrev pub NetworksRunInOneWay : Type 0
NetworksRunInOneWay = (net : Network) → IsNetwork net → (n : ℕ) (a b : Way) (k m : ℕ → ℕ) → RunsSo net n a k → RunsSo net n b m → (a ≡ b) × ((i : ℕ) → k i ≡ m i)

-- ---- where no step is allowed

-- no reachable count is past one that allows no step
abbrev pub NonePassesAnEnd : Type 0
NonePassesAnEnd = (net : Network) → IsNetwork net → (k m : ℕ → ℕ) → IsReachable net k → IsEnding net m → (i : ℕ) → k i ≤ m i

-- a network that stops within a bound stops at the same count within every greater bound
abbrev pub StopsStay : Type 0
StopsStay = (net : Network) → IsNetwork net → (n m : ℕ) → n ≤ m → (k : ℕ → ℕ) → IsStopped net n k → IsStopped net m k

-- ---- where the instances that are waited for end

-- whatever the order of steps and the bound, the number of their ticks is the same and the streams show the same tokens
pub record ShowAlike (net : Network) (k m : ℕ → ℕ) : Type 0 where
  pub ticks : joined_ticks net k ≡ joined_ticks net m
  pub tokens : (s : ℕ) → net.producer s < net.size → net.consumer s < net.size → shown net k s ≡ shown net m s

abbrev pub EndsShowAlike : Type 0
EndsShowAlike = (net : Network) → IsNetwork net → (k m : ℕ → ℕ) → IsReachable net k → IsReachable net m → HaveJoinedEnded net k → HaveJoinedEnded net m → ShowAlike net k m

-- with more ticks they end too
abbrev pub EndsStay : Type 0
EndsStay = (net : Network) → IsNetwork net → (n m : ℕ) → n ≤ m → (k : ℕ → ℕ) → IsDone net n k → (l : ℕ → ℕ) × IsDone net m l

-- the tokens that are shown of a stream are a prefix of its Kahn stream, and all of it where its producer is waited for
abbrev pub ShownBegins : Type 0
ShownBegins = (net : Network) → IsNetwork net → (k : ℕ → ℕ) → IsReachable net k → (s : ℕ) → IsKahnPrefix net s (shown net k s)

abbrev pub ShownIsWhole : Type 0
ShownIsWhole =
    (net : Network) → IsNetwork net → (k : ℕ → ℕ) → HaveJoinedEnded net k → (s : ℕ) → net.producer s < net.size → IsJoined net (net.producer s)
    → IsKahnStream net s (shown net k s)

-- the fewest ticks of all instances, detached ones too, with which every instance that is waited for can have ended
pub record IsLeastToEnd (net : Network) (a : ℕ) : Type 0 where
  pub count : ℕ → ℕ
  pub reachable : IsReachable net count
  pub ended : HaveJoinedEnded net count
  pub sum : total net.size count ≡ a
  pub least : (m : ℕ → ℕ) → IsReachable net m → HaveJoinedEnded net m → a ≤ total net.size m

abbrev pub EndsHaveALeast : Type 0
EndsHaveALeast = (net : Network) → IsNetwork net → (n : ℕ) (k : ℕ → ℕ) → IsDone net n k → (a : ℕ) × IsLeastToEnd net a

-- ---- where every instance is waited for, the one count that allows no step determines the outcome

abbrev pub AreAllJoined : Network → Type 0
AreAllJoined net = (i : ℕ) → i < net.size → IsJoined net i

-- no step is allowed, and every instance has ended
pub record IsAllOver (net : Network) (k : ℕ → ℕ) : Type 0 where
  pub ending : IsEnding net k
  pub ended : (i : ℕ) → i < net.size → HasEnded net k i

-- no step is allowed, and some instance has not ended
pub record IsDeadlock (net : Network) (k : ℕ → ℕ) : Type 0 where
  pub ending : IsEnding net k
  pub instance : ℕ
  pub inside : instance < net.size
  pub goes_on : HasEnded net k instance → ⊥

pub record IsToldByItsEnd (net : Network) (n : ℕ) : Type 0 where
  pub done : (k : ℕ → ℕ) → IsDone net n k ↔ (IsAllOver net k × (total net.size k ≤ n))
  pub stopped : (k : ℕ → ℕ) → IsStopped net n k ↔ (IsDeadlock net k × (total net.size k ≤ n))
  -- it makes more ticks, or never ends
  pub past : GoesPast net n ↔ ((m : ℕ → ℕ) → IsEnding net m → n < total net.size m)
  pub ticks : (k : ℕ → ℕ) → joined_ticks net k ≡ total net.size k
  -- the least sum is that of the end
  pub least : (a : ℕ) (k : ℕ → ℕ) → IsLeastToEnd net a → IsDone net n k → a ≡ total net.size k

abbrev pub JoinedNetworksAreToldByTheirEnd : Type 0
JoinedNetworksAreToldByTheirEnd = (net : Network) → IsNetwork net → AreAllJoined net → (n : ℕ) → IsToldByItsEnd net n
