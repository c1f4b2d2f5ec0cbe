-- The rule of the turn, and what each step reports.
use Rattle.std.specs.Prelude.{◌≡◌, ◌≢◌, ◌⊎◌, ◌+◌, ◌-◌, ◌<◌, ◌≤◌, ◌∷◌}
use Rattle.std.specs.Prelude.{ℕ, suc, max, Bool, true, false, cond, eqb, List, [], length, slice_index, Option, Some, None}
use mathlib.Core.Option.{some}
use lib.ListN.{get_elem?}
use Rattle.atomic_table.specs.Table.{State, Me, Step}
use Rattle.net_case.specs.declared.case_state.CaseState.{CaseState}
use Rattle.coro_threads.specs.Ends.{is_out, IsOf}
use Rattle.coro_threads.specs.Out.{IsSameRun}
use Rattle.coro_threads.specs.declared.views.View.{View}

-- ---- what is counted over the seats
abbrev pub bit : Bool → ℕ
bit b = cond b 1 0

abbrev pub turn_of : View → ℕ
turn_of v = bit v.turn

abbrev pub share_of : View → ℕ
share_of v = v.shares

-- 1 where the batch is that of the instance i
abbrev pub named : Option ℕ → ℕ → ℕ
named None i = 0
named (Some b) i = bit (eqb b i)

abbrev pub names : ℕ → View → ℕ
names i v = named v.batch i

abbrev pub total : (View → ℕ) → List View → ℕ
total f [] = 0
total f (v ∷ vs) = f v + total f vs

-- ---- the rule
-- what a view knows, where the count is `counts` and the instances out are those of `out`
pub record Knows (o : CaseState) (counts : List ℕ) (out : List Bool) (v : View) : Type 0 where
  pub of_board : 0 < v.shares → v.origin ≡ Some o
  pub behind : (i : ℕ) → slice_index v.seen i ≤ slice_index counts i
  pub batch : (i : ℕ) → 0 < names i v → slice_index v.seen i ≡ slice_index counts i
  pub holder : 0 < turn_of v → (v.seen ≡ counts) × (v.out ≡ out)
  pub alone : v.shares ≡ 0 → (v.turn ≡ false) × (v.batch ≡ None)

-- the turn is free, and the case at home has this count and these instances out
abbrev pub AtHome : CaseState → List ℕ → List Bool → State (Option CaseState) View → Type 0
AtHome o counts out s = (c : CaseState) × (s.words ≡ 0 ∷ []) × (s.homes ≡ some (Some c) ∷ []) × (c.counts ≡ counts) × (c.out ≡ out) × IsOf o c × (total turn_of s.views ≡ 0)

-- the turn is taken, by one seat, and the case is out with it
abbrev pub Away : State (Option CaseState) View → Type 0
Away s = (s.words ≡ 1 ∷ []) × (length s.homes ≡ 1) × (total turn_of s.views ≡ 1)

-- between any two steps on the word: the case is at home where the turn is free, and else one seat has the turn; all shares are those
-- of the workers; an instance is out exactly where one seat has its batch; and each seat knows what it says of itself, so that the
-- case has gone on at least as far as every seat saw, and is where the seat saw it for the instance of the seat's batch and for
-- all instances where the seat has the turn
pub record Kept (o : CaseState) (workers : ℕ) (s : State (Option CaseState) View) : Type 0 where
  pub counts : List ℕ
  pub out : List Bool
  pub place : AtHome o counts out s ⊎ Away s
  pub parts : total share_of s.views ≡ workers
  pub batches : (i : ℕ) → total (names i) s.views ≡ bit (is_out out i)
  pub each : (j : ℕ) (v : View) → get_elem? s.views j ≡ some v → Knows o counts out v

-- the one seat of a new table has all shares
abbrev pub starting : CaseState → ℕ → View
starting o workers = record { origin = Some o; seen = o.counts; turn = false; out = []; batch = None; shares = workers }

-- ---- the steps
-- split: what the seat keeps, and what the new one has
abbrev pub kept_part : View → View
kept_part v = record v { shares = v.shares - 1 }

abbrev pub new_part : View → View
new_part v = record v { shares = 1; turn = false; batch = None }

-- the larger of each pair
abbrev pub larger : List ℕ → List ℕ → List ℕ
larger [] ys = ys
larger (x ∷ xs) [] = x ∷ xs
larger (x ∷ xs) (y ∷ ys) = max x y ∷ larger xs ys

-- join: the view of the seat that is kept, and that of the other
abbrev pub joined : View → View → View
joined v w = record v { seen = larger v.seen w.seen; shares = v.shares + w.shares }

abbrev pub nobody : View
nobody = record { origin = None; seen = []; turn = false; out = []; batch = None; shares = 0 }

-- the first instance that is out in the second list and not in the first
abbrev pub first_new : ℕ → List Bool → List Bool → Option ℕ
first_new k xs [] = None
first_new k [] (false ∷ ys) = first_new (suc k) [] ys
first_new k [] (true ∷ ys) = Some k
first_new k (x ∷ xs) (false ∷ ys) = first_new (suc k) xs ys
first_new k (true ∷ xs) (true ∷ ys) = first_new (suc k) xs ys
first_new k (false ∷ xs) (true ∷ ys) = Some k

-- Some b if the condition holds, and None otherwise
abbrev pub some_if : Bool → ℕ → Option ℕ
some_if true b = Some b
some_if false b = None

-- the batch that a seat is left with, from what it had and what was out before and after
abbrev pub batch_after : Option ℕ → List Bool → List Bool → Option ℕ
batch_after (Some b) before after = some_if (is_out after b) b
batch_after None before after = first_new 0 before after

-- what the seat has after a take of this case, and after giving it back
abbrev pub taken : View → CaseState → View
taken v c = record v { turn = true; seen = c.counts; out = c.out }

abbrev pub given : View → CaseState → View
given v c = record v { turn = false; seen = c.counts; out = []; batch = batch_after v.batch v.out c.out }

-- what a take reports of the case
pub record Finds (v : View) (c : CaseState) : Type 0 where
  pub of_board : (a : CaseState) → v.origin ≡ Some a → IsOf a c
  pub ahead : (i : ℕ) → slice_index v.seen i ≤ slice_index c.counts i
  pub batch : (i : ℕ) → v.batch ≡ Some i → (is_out c.out i ≡ true) × (slice_index c.counts i ≡ slice_index v.seen i)

-- the instances that are out in the second list are those of the first, and one further
pub record GoesOut (before after : List Bool) : Type 0 where
  pub instance : ℕ
  pub was_home : is_out before instance ≡ false
  pub is_away : is_out after instance ≡ true
  pub others : (i : ℕ) → i ≢ instance → is_out after i ≡ is_out before i

-- what may change in one turn in which instances are out: that of the seat's own batch may come back, and where the seat has none
-- one further instance may go out
abbrev pub MayChange : Option ℕ → List Bool → List Bool → Type 0
MayChange (Some b) before after = (i : ℕ) → i ≢ b → is_out after i ≡ is_out before i
MayChange None before after = ((i : ℕ) → is_out after i ≡ is_out before i) ⊎ GoesOut before after

-- what a give asks of the case
pub record MayGive (v : View) (c : CaseState) : Type 0 where
  pub of_board : (a : CaseState) → v.origin ≡ Some a → IsSameRun a c
  pub ahead : (i : ℕ) → slice_index v.seen i ≤ slice_index c.counts i
  pub still : (i : ℕ) → is_out v.out i ≡ true → named v.batch i ≡ 0 → slice_index c.counts i ≡ slice_index v.seen i
  pub outs : MayChange v.batch v.out c.out

abbrev pub Seated : Type 0
Seated = Me (Option CaseState) View

-- a step from 0 to 1: it began at 0 and has the case, or it was at 1 and changed nothing
abbrev pub took : Step (Option CaseState) → Seated → ℕ → Seated → Type 0
took st m n m' = (n ≡ 0 → (c : CaseState) × (m' ≡ (taken m.0 c, (0, Some c) ∷ [])) × Finds m.0 c) × (0 < n → m' ≡ m)

-- a store of 0 by who has the case in hand
abbrev pub gave : Step (Option CaseState) → Seated → ℕ → Seated → Type 0
gave st m n m' = (c : CaseState) → m.1 ≡ (0, Some c) ∷ [] → m' ≡ (given m.0 c, [])

-- what a seat carries
abbrev pub hand_of : Bool → List (ℕ × Option CaseState)
hand_of true = (0, None) ∷ []
hand_of false = []

-- it has neither the turn nor a batch
abbrev pub HasNothing : View → Type 0
HasNothing v = (v.turn ≡ false) × (v.batch ≡ None)

-- batches were claimed, run and committed, one after another
pub record HasTurned (c c' : CaseState) : Type 0 where
  pub run : IsSameRun c c'
  pub out : (i : ℕ) → is_out c'.out i ≡ is_out c.out i
  pub ahead : (i : ℕ) → slice_index c.counts i ≤ slice_index c'.counts i
  pub still : (i : ℕ) → is_out c.out i ≡ true → slice_index c'.counts i ≡ slice_index c.counts i
