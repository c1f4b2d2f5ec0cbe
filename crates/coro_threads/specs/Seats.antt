-- What clauses say of a board and a seat.
use Rattle.std.specs.Prelude.{◌≡◌, ℕ, ◌≤◌, ◌⊎◌, Bool, true, false, List, [], Option, Some, slice_index}
use Rattle.coro_threads.specs.Ends.{IsEndAt}
use Rattle.atomic_table.specs.Seated.{TableId}
use Rattle.atomic_table.specs.declared.shared.Seat.{Seat}
use Rattle.coro_threads.specs.Turn.{HasNothing, HasTurned}
use Rattle.coro_threads.specs.Ticks.{HasSeenMany}
use Rattle.net_case.specs.State.{IsValidCase}
use Rattle.net_case.specs.Claims.{Claims}
use Rattle.coro_threads.specs.declared.free.Turned.{Turned}
use Rattle.coro_threads.specs.declared.free.Turned.TheVariants.{Found, Left, Again, Short}
use Rattle.net_case.specs.declared.case_state.CaseState.{CaseState}
use Rattle.net_case.specs.declared.lot.Lot.{Lot}
use Rattle.net_core.specs.declared.body.Body.{Ghosts}
use Rattle.net_case.specs.declared.claim.Claimed.{Claimed}
use Rattle.net_case.specs.declared.claim.Claimed.TheVariants.{Work, Wait, Over}
use Rattle.coro_threads.specs.declared.views.View.{View}
use Rattle.coro_threads.specs.declared.seats.Board.{Board}
use Rattle.coro_threads.specs.declared.seats.BoardSeat.{BoardSeat}
use Rattle.coro_threads.specs.declared.seats.Worker.{Worker}

-- what a seat has that gathers others
pub record Gathers (z : TableId) (o : CaseState) (p : Seat (Option CaseState) View) (n : ℕ) : Type 0 where
  pub table : p.table_id ≡ z
  pub empty : p.me.1 ≡ []
  pub origin : p.me.0.origin ≡ Some o
  pub idle : HasNothing p.me.0
  pub shares : p.me.0.shares ≡ n

-- the seat has this batch, on a board that was made with the case o
pub record HasBatch (o : CaseState) (v : View) (batch : Lot) : Type 0 where
  pub free : v.turn ≡ false
  pub mine : v.batch ≡ Some batch.instance
  pub counted : slice_index v.seen batch.instance ≡ batch.from
  pub program : batch.program ≡ o.program
  pub input : batch.input ≡ o.input
  pub budget : batch.budget ≡ o.budget
  pub at : (i : ℕ) → slice_index batch.at i ≤ slice_index v.seen i

-- no batch, and the count that was seen is an end
abbrev pub SeesTheEnd : CaseState → View → Type 0
SeesTheEnd o v = HasNothing v × IsEndAt o v.seen

-- what a worker is left with: neither the turn nor a batch; it found no memory, or batches stay small, or it has seen the end; and if
-- they stay small, it has seen that many ticks were made
pub record Finished (o : CaseState) (v : View) (short small : Bool) : Type 0 where
  pub idle : HasNothing v
  pub seen : small ≡ true → HasSeenMany o v.seen
  pub over : (short ≡ true) ⊎ ((small ≡ true) ⊎ IsEndAt o v.seen)

-- what a seat has after a claim
abbrev pub AfterClaim : {B : Type 0} → CaseState → View → Claimed B → Type 0
AfterClaim o v (Work batch) = HasBatch o v batch
AfterClaim o v Wait = HasNothing v
AfterClaim o v (Over x) = SeesTheEnd o v

-- what a turn does to the case
abbrev pub Turns : {B : Type 0} → CaseState → Turned B → CaseState → Type 0
Turns c (Found x) c' = (c1 : CaseState) × HasTurned c c1 × IsValidCase c1 × Claims c1 x c'
Turns c Left c' = HasTurned c c'
Turns c Again c' = HasTurned c c'
Turns c Short c' = HasTurned c c'

-- what a seat without a batch has after a turn
abbrev pub AfterTurn : {B : Type 0} → CaseState → View → Turned B → Type 0
AfterTurn o v (Found x) = AfterClaim o v x
AfterTurn o v Left = HasNothing v
AfterTurn o v Again = HasNothing v
AfterTurn o v Short = HasNothing v

-- the case that the board was made with
abbrev pub origin : {B : Type 0} → Board B → CaseState
origin b = b.table.shared.key.origin.value

-- how many seats are to come back when it is closed
abbrev pub workers_of : {B : Type 0} → Board B → ℕ
workers_of b = b.table.shared.key.workers

module _ {B : Type 0} {g : Ghosts B} where
  -- what a seat knows and holds
  abbrev pub view : BoardSeat B g → View
  view s = s.seat.me.0

  -- a seat of the table z, whose board was made with the case o
  pub record IsSeatAt (z : TableId) (o : CaseState) (s : BoardSeat B g) : Type 0 where
    pub table : s.seat.table_id ≡ z
    pub origin : s.seat.me.0.origin ≡ Some o

  -- a seat of this board
  abbrev pub IsSeatOf : Board B → BoardSeat B g → Type 0
  IsSeatOf b s = IsSeatAt b.table.shared.table_id (origin b) s

  -- a worker whose seat may be split or joined
  abbrev pub IsFree : TableId → CaseState → Worker B g → Type 0
  IsFree z o w = IsSeatAt z o w.seat × HasNothing (view w.seat)

  -- the seat's count, task by task, is at most that of the list
  abbrev pub IsBehind : List ℕ → Worker B g → Type 0
  IsBehind counts w = (i : ℕ) → slice_index (view w.seat).seen i ≤ slice_index counts i
