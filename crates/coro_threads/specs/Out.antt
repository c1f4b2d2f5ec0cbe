-- What the batches that are out are to their case.
use Rattle.std.specs.Prelude.{◌≡◌, ℕ, ◌<◌, ◌≤◌, true, List, length, Some, slice_get, slice_index}
use Rattle.net_core.specs.declared.outcome.Outcome.{Outcome}
use Rattle.net_core.specs.Settle.{EndsAs, IsSettled, ticks_ahead}
use Rattle.net_case.specs.declared.lot.Lot.{Lot}
use Rattle.net_case.specs.Batch.{IsSameLot}
use Rattle.net_case.specs.declared.case_state.CaseState.{CaseState}
use Rattle.net_case.specs.State.{net_of, IsOut}

-- two states of one run: of one program, input and budget
pub record IsSameRun (c c' : CaseState) : Type 0 where
  pub program : c'.program ≡ c.program
  pub input : c'.input ≡ c.input
  pub budget : c'.budget ≡ c.budget

-- a batch is out of the case: its instance is at the count where it began, and each other one has made no fewer ticks than there
pub record IsOutWith (c : CaseState) (b : Lot) : Type 0 where
  pub program : b.program ≡ c.program
  pub input : b.input ≡ c.input
  pub budget : b.budget ≡ c.budget
  pub out : IsOut c b.instance
  pub from : slice_index c.counts b.instance ≡ b.from
  pub later : (i : ℕ) → slice_index b.at i ≤ slice_index c.counts i
  pub some : 0 < b.fuel

-- these batches are out, each of another instance, and no others
pub record AreOut (c : CaseState) (bs : List Lot) : Type 0 where
  pub each : (n : ℕ) (b : Lot) → slice_get bs n ≡ Some b → IsOutWith c b
  pub apart : (n m : ℕ) (a b : Lot) → slice_get bs n ≡ Some a → slice_get bs m ≡ Some b → a.instance ≡ b.instance → n ≡ m
  pub whole : (i : ℕ) → IsOut c i → (n : ℕ) × (b : Lot) × (slice_get bs n ≡ Some b) × (b.instance ≡ i)

-- two states of one list of batches, which may differ in their ticks
pub record AreSameLots (old new : List Lot) : Type 0 where
  pub len : length new ≡ length old
  pub same : (n : ℕ) (a b : Lot) → slice_get old n ≡ Some a → slice_get new n ≡ Some b → IsSameLot a b

-- each of the first m may be resumed
abbrev pub AreReady : ℕ → List Lot → Type 0
AreReady m bs = (n : ℕ) (b : Lot) → n < m → slice_get bs n ≡ Some b → b.ready ≡ true

-- how many more ticks the instances of a case may make, each within the budget
abbrev pub ahead : CaseState → ℕ
ahead c = ticks_ahead (net_of c) c.budget

-- the case has ended so, and the pauses say what each instance waits for
pub record HasEndedAs (c : CaseState) (o : Outcome) : Type 0 where
  pub outcome : EndsAs (net_of c) c.budget o
  pub settled : IsSettled (net_of c) o
