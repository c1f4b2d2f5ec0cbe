-- How driving a net ends, and what its rounds keep.
use Rattle.std.specs.Prelude.{◌≡◌, ℕ, ◌-◌, ◌*◌, ◌<◌, ◌≤◌, ◌⊎◌, List, length, Bool, true, false, Option, Some, slice_get}
use Rattle.tapa_syntax.specs.declared.program.Program.{Program}
use Rattle.kahn_model.specs.Counts.{IsAllowed}
use Rattle.kahn_model.specs.Outcome.{IsJoined, HaveJoinedEnded, IsStopped}
use Rattle.kahn_model.specs.Ending.{EndsWithin, GoesPast}
use Rattle.net_core.specs.declared.body.Pause.{Pause}
use Rattle.net_core.specs.declared.body.Pause.TheVariants.{Ended, Fuel}
use Rattle.net_core.specs.declared.outcome.Outcome.{Outcome}
use Rattle.net_core.specs.declared.outcome.Outcome.TheVariants.{Done, Stopped, Limit}
use Rattle.net_core.specs.declared.net_state.NetState.{NetState}
use Rattle.net_core.specs.Bindings.{detached_at, stream_at}
use Rattle.net_core.specs.Waits.{HoldsPause, IsToldBy}
use Rattle.net_core.specs.Load.{IsIn, AreBelow}
use Rattle.net_core.specs.State.{network, count, total_ticks, joined_total, given, IsWithin}

-- the outcome within a budget of ticks: exactly one holds (Kahn's network at its declared depths, see kahn_model's
-- specs/Outcome). Where the network is done, each instance that is waited for has ended at the net's count, and t is their ticks in it; a
-- detached one may go on from there
abbrev pub EndsAs : NetState → ℕ → Outcome → Type 0
EndsAs net budget (Done t) = EndsWithin (network net) budget × HaveJoinedEnded (network net) (count net) × (t ≡ joined_total net)
EndsAs net budget (Stopped t) = IsStopped (network net) budget (count net) × (t ≡ joined_total net)
EndsAs net budget Limit = GoesPast (network net) budget

-- the last pause of instance j says what it waits for
abbrev pub HasOutcome : NetState → ℕ → Type 0
HasOutcome net j = (x : Pause) × (slice_get net.pauses j ≡ Some (Some x)) × IsToldBy (network net) (count net) j (stream_at net.program j) x

abbrev pub AreTold : NetState → Type 0
AreTold net = (j : ℕ) → j < length net.program.instances.items → HasOutcome net j

abbrev pub AreJoinedTold : NetState → Type 0
AreJoinedTold net = (j : ℕ) → j < length net.program.instances.items → IsJoined (network net) j → HasOutcome net j

abbrev pub IsSettled : NetState → Outcome → Type 0
IsSettled net Limit = Unit {0}
IsSettled net (Done t) = AreJoinedTold net
IsSettled net (Stopped t) = AreTold net

-- the last pause of instance j still says why it makes no step
pub record IsQuiet (net : NetState) (j : ℕ) : Type 0 where
  pub pause : Pause
  pub last : slice_get net.pauses j ≡ Some (Some pause)
  pub stopped : pause ≡ Fuel → ⊥
  pub holds : HoldsPause (network net) (count net) j (stream_at net.program j) pause

-- detached instance j has made all ticks of the budget, and may go on
pub record IsSpent (net : NetState) (budget j : ℕ) : Type 0 where
  pub detached : (network net).detached j ≡ true
  pub last : slice_get net.pauses j ≡ Some (Some Fuel)
  pub spent : count net j ≡ budget
  pub allowed : IsAllowed (network net) (count net) j

-- instance j makes no step within the budget
abbrev pub IsAtRest : NetState → ℕ → ℕ → Type 0
IsAtRest net budget j = IsQuiet net j ⊎ IsSpent net budget j

-- no tick is left to the instances that are waited for, and one of them may go on
pub record IsLimited (net : NetState) (left : ℕ) : Type 0 where
  pub none : left ≡ 0
  pub instance : ℕ
  pub joined : IsJoined (network net) instance
  pub allowed : IsAllowed (network net) (count net) instance

-- how many more ticks the instances may make, each within the budget
unfoldable pub ticks_ahead : NetState → ℕ → ℕ
ticks_ahead net budget = (network net).size * budget - total_ticks net

-- what a visit of instance i leaves: each other one is at rest as before, or on the list
pub record Visited (old new : NetState) (i budget left : ℕ) (later later' : List ℕ) (go : Bool) : Type 0 where
  pub given : given new ≡ given old
  pub within : IsWithin new budget left
  pub limit : go ≡ false → IsLimited new left
  pub rest : go ≡ true → (j : ℕ) → j < length old.program.instances.items → (j ≡ i) ⊎ (IsAtRest old budget j ⊎ IsIn j later) → IsAtRest new budget j ⊎ IsIn j later'
  pub less : ticks_ahead new budget ≤ ticks_ahead old budget
  pub progress : 0 < length later' → (0 < length later) ⊎ (ticks_ahead new budget < ticks_ahead old budget)

-- what a pass over a list of instances leaves
pub record Passed (old new : NetState) (budget : ℕ) (now later : List ℕ) : Type 0 where
  pub below : AreBelow (length old.program.instances.items) later
  pub rest : (j : ℕ) → j < length old.program.instances.items → IsAtRest old budget j ⊎ IsIn j now → IsAtRest new budget j ⊎ IsIn j later
  pub less : ticks_ahead new budget ≤ ticks_ahead old budget
  pub progress : 0 < length later → ticks_ahead new budget < ticks_ahead old budget

-- each instance that is waited for answered last that it has ended
abbrev pub AreJoinedEnded : Program → List (Option Pause) → Type 0
AreJoinedEnded program pauses = (j : ℕ) → j < length pauses → detached_at program j ≡ false → slice_get pauses j ≡ Some (Some Ended)

-- one of them did not
abbrev pub IsSomeJoinedLeft : Program → List (Option Pause) → Type 0
IsSomeJoinedLeft program pauses = (j : ℕ) × (j < length pauses) × (detached_at program j ≡ false) × (slice_get pauses j ≡ Some (Some Ended) → ⊥)

-- some instance answered last that it may go on
abbrev pub IsSomeWithFuel : List (Option Pause) → Type 0
IsSomeWithFuel pauses = (j : ℕ) × (slice_get pauses j ≡ Some (Some Fuel))

-- none did
abbrev pub AreNoneWithFuel : List (Option Pause) → Type 0
AreNoneWithFuel pauses = (j : ℕ) → slice_get pauses j ≡ Some (Some Fuel) → ⊥
