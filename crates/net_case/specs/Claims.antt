-- What the calls of a case do.
use Rattle.std.specs.Prelude.{◌≡◌, ◌⊎◌, ℕ, ◌+◌, ◌<◌, ◌≤◌, true, false, length, Option, Some, None, slice_index, slice_index_or, slice_set}
use Rattle.kahn_model.specs.Outcome.{IsJoined, joined_ticks, HaveJoinedEnded}
use Rattle.net_core.specs.declared.body.Pause.{Pause}
use Rattle.net_core.specs.declared.body.Pause.TheVariants.{Ended, WantsRead, WantsWrite, BadToken, Fuel}
use Rattle.net_core.specs.declared.outcome.Outcome.{Outcome}
use Rattle.net_core.specs.Settle.{EndsAs, IsSettled}
use Rattle.net_core.specs.Bindings.{stream_at}
use Rattle.net_case.specs.declared.lot.Lot.{Lot}
use Rattle.net_case.specs.declared.case_state.CaseState.{CaseState}
use Rattle.net_case.specs.declared.claim.Claimed.{Claimed}
use Rattle.net_case.specs.declared.claim.Claimed.TheVariants.{Work, Wait, Over}
use Rattle.net_case.specs.Home.{IsAtRest}
use Rattle.net_case.specs.Over.{MayStep, IsOver, ClaimAnswers}
use Rattle.net_case.specs.State.{network, count, net_of, IsOut, IsAtHome, AreAllHome}

-- a case as it was, but for what its instances answered last
pub record IsSameCase (c c' : CaseState) : Type 0 where
  pub program : c'.program ≡ c.program
  pub input : c'.input ≡ c.input
  pub budget : c'.budget ≡ c.budget
  pub counts : c'.counts ≡ c.counts
  pub out : c'.out ≡ c.out

-- the batch starts at the case's count and has made no tick
pub record StartsAt (c : CaseState) (b : Lot) : Type 0 where
  pub program : b.program ≡ c.program
  pub input : b.input ≡ c.input
  pub budget : b.budget ≡ c.budget
  pub at : b.at ≡ c.counts
  pub from : b.from ≡ slice_index c.counts b.instance
  pub none_made : b.made ≡ 0
  pub unrun : b.pause ≡ None
  pub unready : b.ready ≡ false

-- an instance that was at home and may step is out now, with some fuel and no more than the ticks that it may still make
pub record HandsOut (c : CaseState) (b : Lot) (c' : CaseState) : Type 0 where
  pub inside : b.instance < length c.counts
  pub at_home : IsAtHome c b.instance
  pub may : MayStep (network c) c.budget (count c) b.instance
  pub starts : StartsAt c b
  pub some : 0 < b.fuel
  pub joined : IsJoined (network c) b.instance → joined_ticks (network c) (count c) + b.fuel ≤ c.budget
  pub detached : (network c).detached b.instance ≡ true → count c b.instance + b.fuel ≤ c.budget
  pub program : c'.program ≡ c.program
  pub input : c'.input ≡ c.input
  pub budget : c'.budget ≡ c.budget
  pub counts : c'.counts ≡ c.counts
  pub out : c'.out ≡ slice_set c.out b.instance true

-- instance i makes no step within the budget, and its last answer says why
abbrev pub Rests : CaseState → ℕ → Type 0
Rests c i = IsAtRest (network c) c.budget (count c) i (stream_at c.program i) c.pauses

-- those at home of the instances from one number on and before another
abbrev pub RestsIn : CaseState → ℕ → ℕ → Type 0
RestsIn c from to = (i : ℕ) → from ≤ i → i < to → IsAtHome c i → Rests c i

abbrev pub KeepsRest : CaseState → CaseState → Type 0
KeepsRest c c' = (i : ℕ) → Rests c i → Rests c' i

-- no instance at home may step, or every one that is waited for has ended
abbrev pub IsIdle : CaseState → Type 0
IsIdle c = ((i : ℕ) → IsAtHome c i → MayStep (network c) c.budget (count c) i → ⊥) ⊎ HaveJoinedEnded (network c) (count c)

-- each instance at home is at rest, or every one that is waited for has ended
abbrev pub IsFinished : CaseState → Type 0
IsFinished c = ((i : ℕ) → IsAtHome c i → i < length c.counts → Rests c i) ⊎ HaveJoinedEnded (network c) (count c)

-- nothing is to be done until some instance comes back
pub record MustWait (c c' : CaseState) : Type 0 where
  pub same : IsSameCase c c'
  pub away : (i : ℕ) × IsOut c i
  pub idle : IsIdle c

-- nothing is left to do: the answer is the outcome within the budget, and the pauses say what each instance waits for
pub record IsEnd (c : CaseState) (o : Outcome) (c' : CaseState) : Type 0 where
  pub same : IsSameCase c c'
  pub home : AreAllHome c
  pub over : IsOver (network c) c.budget (count c)
  pub answer : ClaimAnswers (network c) c.budget (count c) o
  pub outcome : EndsAs (net_of c') c.budget o
  pub settled : IsSettled (net_of c') o

abbrev pub Claims : {B : Type 0} → CaseState → Claimed B → CaseState → Type 0
Claims c (Work b) c' = HandsOut c b c' × (HaveJoinedEnded (network c) (count c) → ⊥)
Claims c Wait c' = MustWait c c'
Claims c (Over o) c' = IsEnd c o c'

-- what is kept of a batch's answer: an end, or that the instance may go on; of a batch that was not run, what was kept before
abbrev pub kept_of : Option Pause → Option Pause → Option Pause
kept_of None before = before
kept_of (Some Ended) before = Some Ended
kept_of (Some (WantsRead p)) before = Some Fuel
kept_of (Some (WantsWrite p)) before = Some Fuel
kept_of (Some (BadToken p)) before = Some Fuel
kept_of (Some Fuel) before = Some Fuel

-- the batch's instance is at home again, at the count that the batch has reached
pub record Commits (c : CaseState) (b : Lot) (c' : CaseState) : Type 0 where
  pub fresh : slice_index c.counts b.instance ≡ b.from
  pub program : c'.program ≡ c.program
  pub input : c'.input ≡ c.input
  pub budget : c'.budget ≡ c.budget
  pub counts : c'.counts ≡ slice_set c.counts b.instance (b.from + b.made)
  pub out : c'.out ≡ slice_set c.out b.instance false
  pub pauses : c'.pauses ≡ slice_set c.pauses b.instance (kept_of b.pause (slice_index_or c.pauses b.instance None))

-- what a batch that is committed asks of the case: it is of the same run, and where the counts of its instance agree the
-- instance is out and each other one has made no fewer ticks than at the claim
pub record MayCommit (c : CaseState) (b : Lot) : Type 0 where
  pub out : IsOut c b.instance
  pub later : (i : ℕ) → slice_index b.at i ≤ slice_index c.counts i
