-- Counts: how many ticks each instance has made.
use Rattle.std.specs.Prelude.{◌≡◌, ℕ, zero, suc, ◌+◌, ◌-◌, ◌<◌, List, [], ◌∷◌, length, take, ◌==◌, if◌then◌else◌, Option, Some, slice_get, flat_map}
use Rattle.tapa_base.specs.declared.token.Token.{Token}
use Rattle.kahn_model.specs.Prefix.{IsPrefixOf}
use Rattle.kahn_model.specs.Behavior.{Put, Tick, Did, Take, See, End}
use Rattle.kahn_model.specs.Network.{Network, put_on, take_from, stream, round}

-- the sum of the first m numbers of a count
abbrev pub total : ℕ → (ℕ → ℕ) → ℕ
total zero k = 0
total (suc m) k = total m k + k m

-- the round that has every tick that a count may make next: one more than the ticks so far
abbrev pub round_of : Network → (ℕ → ℕ) → ℕ
round_of net k = suc (total net.size k)

-- the ticks that instance i has made
abbrev pub ticks_made : Network → (ℕ → ℕ) → ℕ → List Tick
ticks_made net k i = take (k i) (round net (round_of net k) i)

abbrev pub written : Network → (ℕ → ℕ) → ℕ → List Token
written net k s = flat_map (put_on s) (ticks_made net k (net.producer s))

abbrev pub taken : Network → (ℕ → ℕ) → ℕ → List Token
taken net k s = flat_map (take_from s) (ticks_made net k (net.consumer s))

-- the next tick of instance i
abbrev pub next : Network → (ℕ → ℕ) → ℕ → Option Tick
next net k i = slice_get (round net (round_of net k) i) (k i)

-- the token that a tick takes or sees is written and not taken
abbrev pub HasToken : Network → (ℕ → ℕ) → Tick → Type 0
HasToken net k (Take s t) = length (taken net k s) < length (written net k s)
HasToken net k (See s t) = length (taken net k s) < length (written net k s)
HasToken net k (Did a) = Unit {0}
HasToken net k End = Unit {0}

-- the stream has room for the token that a tick puts
abbrev pub HasRoom : Network → (ℕ → ℕ) → Tick → Type 0
HasRoom net k (Did (Put s t)) = length (written net k s) - length (taken net k s) < net.depth s
HasRoom net k _ = Unit {0}

-- instance i has a next tick whose token is there
pub record IsSupplied (net : Network) (k : ℕ → ℕ) (i : ℕ) : Type 0 where
  pub inside : i < net.size
  pub tick : Tick
  pub is_next : next net k i ≡ Some tick
  pub token : HasToken net k tick

-- a step of instance i is allowed
pub record IsAllowed (net : Network) (k : ℕ → ℕ) (i : ℕ) : Type 0 where
  pub supplied : IsSupplied net k i
  pub room : HasRoom net k supplied.tick

-- the count after a tick of instance i
abbrev pub with_tick_of : ℕ → (ℕ → ℕ) → ℕ → ℕ
with_tick_of i k j = if j == i then suc (k j) else k j

abbrev pub after : List ℕ → (ℕ → ℕ) → ℕ → ℕ
after [] k = k
after (i ∷ steps) k = after steps (with_tick_of i k)

abbrev pub AreAllowed : Network → List ℕ → (ℕ → ℕ) → Type 0
AreAllowed net [] k = Unit {0}
AreAllowed net (i ∷ steps) k = IsAllowed net k i × AreAllowed net steps (with_tick_of i k)

-- a step without regard to room
abbrev pub AreSupplied : Network → List ℕ → (ℕ → ℕ) → Type 0
AreSupplied net [] k = Unit {0}
AreSupplied net (i ∷ steps) k = IsSupplied net k i × AreSupplied net steps (with_tick_of i k)

abbrev pub zeros : ℕ → ℕ
zeros i = 0

pub record IsReachable (net : Network) (k : ℕ → ℕ) : Type 0 where
  pub steps : List ℕ
  pub allowed : AreAllowed net steps zeros
  pub is_after : (i : ℕ) → k i ≡ after steps zeros i

-- a count that streams without limit could reach
pub record IsFounded (net : Network) (k : ℕ → ℕ) : Type 0 where
  pub steps : List ℕ
  pub supplied : AreSupplied net steps zeros
  pub is_after : (i : ℕ) → k i ≡ after steps zeros i

-- a reachable count that allows no step
pub record IsEnding (net : Network) (k : ℕ → ℕ) : Type 0 where
  pub reachable : IsReachable net k
  pub over : (i : ℕ) → IsAllowed net k i → ⊥

-- a list is a prefix of the Kahn stream of s
abbrev pub IsKahnPrefix : Network → ℕ → List Token → Type 0
IsKahnPrefix net s c = (n : ℕ) × IsPrefixOf c (stream net n s)

-- a list is the whole Kahn stream of s
abbrev pub IsKahnStream : Network → ℕ → List Token → Type 0
IsKahnStream net s c = IsKahnPrefix net s c × ((n : ℕ) → IsPrefixOf (stream net n s) c)

-- the instance has made its last tick
abbrev pub HasEnded : Network → (ℕ → ℕ) → ℕ → Type 0
HasEnded net k i = (j : ℕ) × (slice_get (ticks_made net k i) j ≡ Some End)
