-- Which instances may step within a budget of ticks, when none may, and what the end is then.
use Rattle.std.specs.Prelude.{◌≡◌, ◌⊎◌, ℕ, ◌<◌, ◌≤◌, true}
use Rattle.kahn_model.specs.Network.{Network, IsNetwork}
use Rattle.kahn_model.specs.Counts.{IsAllowed, IsReachable}
use Rattle.kahn_model.specs.Outcome.{IsCapped, IsJoined, joined_ticks, HaveJoinedEnded, HasJoinedLeft, GoesOn, IsStopped}
use Rattle.kahn_model.specs.Ending.{EndsWithin, GoesPast}
use Rattle.net_core.specs.declared.outcome.Outcome.{Outcome}
use Rattle.net_core.specs.declared.outcome.Outcome.TheVariants.{Done, Stopped, Limit}

-- instance i may step within a budget: those that are waited for together may make `budget` ticks, each detached one `budget` of
-- its own
pub record MayStep (net : Network) (budget : ℕ) (k : ℕ → ℕ) (i : ℕ) : Type 0 where
  pub allowed : IsAllowed net k i
  pub joined : IsJoined net i → joined_ticks net k < budget
  pub detached : net.detached i ≡ true → k i < budget

-- nothing is left to do: no instance may step, or every one that is waited for has ended
abbrev pub IsOver : Network → ℕ → (ℕ → ℕ) → Type 0
IsOver net budget k = ((i : ℕ) → MayStep net budget k i → ⊥) ⊎ HaveJoinedEnded net k

-- what is answered then: Limit where the instances that are waited for have made more ticks than the budget; else Done where every
-- one of them has ended; else Limit where a step is allowed; else Stopped
abbrev pub ClaimAnswers : Network → ℕ → (ℕ → ℕ) → Outcome → Type 0
ClaimAnswers net budget k (Done t) = (joined_ticks net k ≤ budget) × HaveJoinedEnded net k × (t ≡ joined_ticks net k)
ClaimAnswers net budget k (Stopped t) = (joined_ticks net k ≤ budget) × HasJoinedLeft net k × ((i : ℕ) → IsAllowed net k i → ⊥) × (t ≡ joined_ticks net k)
ClaimAnswers net budget k Limit = (budget < joined_ticks net k) ⊎ GoesOn net k

-- what it says of the network at its declared depths
abbrev pub MeansClaim : Network → ℕ → (ℕ → ℕ) → Outcome → Type 0
MeansClaim net budget k (Done t) = EndsWithin net budget × HaveJoinedEnded net k × (t ≡ joined_ticks net k)
MeansClaim net budget k (Stopped t) = IsStopped net budget k × (t ≡ joined_ticks net k)
MeansClaim net budget k Limit = GoesPast net budget

-- whatever is over at a reachable count within its budget ends as it is answered
abbrev pub AnswersAreOutcomes : Type 0
AnswersAreOutcomes =
    (net : Network) → IsNetwork net → (budget : ℕ) (k : ℕ → ℕ) → IsReachable net k → IsCapped net budget k → IsOver net budget k → (o : Outcome) → ClaimAnswers net budget k o
    → MeansClaim net budget k o
