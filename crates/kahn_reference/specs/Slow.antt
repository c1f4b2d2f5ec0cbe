-- What a run over whole lists has done, against the behavior that it follows.
use Rattle.std.specs.Prelude.{◌≡◌, ℕ, List, [], ◌++◌, drop, Option, Some, None, slice_get, slice_index, Vec}
use Rattle.std.specs.declared.alloc.Global.{Global}
use Rattle.tapa_base.specs.declared.token.Token.{Token}
use Rattle.kahn_reference.specs.declared.slow.Variables.{Variables}
use Rattle.kahn_reference.specs.declared.slow.Run.{Run}
use Rattle.kahn_reference.specs.declared.slow.Value.{Value}
use Rattle.kahn_reference.specs.declared.slow.Value.TheVariants.{Given, Stopped}
use Rattle.kahn_reference.specs.declared.slow.Pair.{Pair}
use Rattle.kahn_reference.specs.declared.slow.Pair.TheVariants.{Given as GivenPair, Stopped as StoppedPair}
use Rattle.kahn_reference.specs.declared.slow.Flow.{Flow}
use Rattle.kahn_reference.specs.declared.slow.Flow.TheVariants.{Next, Out, Again, Stopped as StoppedFlow}
use Rattle.kahn_reference.specs.declared.slow.Turn.{Turn}
use Rattle.kahn_reference.specs.declared.slow.Turn.TheVariants.{On, Over, Stopped as StoppedTurn}
use Rattle.tapa_syntax.specs.declared.program.Stmt.{Stmt, Row_of-Stmt}
use Rattle.tapa_syntax.specs.declared.program.Stmt.TheVariants.{Loop'}
use Rattle.tapa_syntax.specs.LeafKinds.{Kinds}
use Rattle.kahn_model.specs.Behavior.{Behavior, OutOfTurns, Act, Await, ticks, trace_end}
use Rattle.kahn_model.specs.declared.tick.Tick.{Tick}
use Rattle.kahn_model.specs.declared.tick.TraceEnd.{TraceEnd}
use Rattle.kahn_model.specs.declared.tick.StreamOperation.{StreamOperation}
use Rattle.kahn_model.specs.declared.tick.Action.TheVariants.{Local}
use Rattle.kahn_model.specs.Rows.{rows_of}
use Rattle.kahn_model.specs.Trace.{State, at_zero, expr, turns, block, at_streams}

abbrev pub row_at : Option (Vec Token Global) → List Token
row_at None = []
row_at (Some v) = v.items

-- whole lists
abbrev pub whole : List (Vec Token Global) → ℕ → List Token
whole lists s = row_at (slice_get lists s)

-- the rest of each list, from its head on
abbrev pub feed : List (Vec Token Global) → List ℕ → ℕ → List Token
feed lists heads s = drop (slice_index heads s) (row_at (slice_get lists s))

abbrev pub state_of : Variables → State
state_of s = record { vars = s.vars.items; arrays = rows_of s.arrays.items; cells = rows_of s.cells.items }

-- the state of a run: its ticks, the rest of each list, and its variables, arrays and cells
pub record Point : Type 0 where
  pub ticks : List Tick
  pub ins : ℕ → List Token
  pub state : State

abbrev pub point : List (Vec Token Global) → Run → Point
point lists run = record { ticks = run.ticks.items; ins = feed lists run.heads.items; state = state_of run.state }

-- from the ticks `before` the behavior a goes on to b, with the ticks `after`
pub record GoesOn (before : List Tick) (a : Behavior) (ins : ℕ → List Token) (after : List Tick) (b : Behavior) (outs : ℕ → List Token) : Type 0 where
  pub ticks_are : before ++ ticks a ins ≡ after ++ ticks b outs
  pub trace_end_is : trace_end a ins ≡ trace_end b outs

-- the behavior a ends with m, with the ticks `after`
pub record Stops (before : List Tick) (a : Behavior) (ins : ℕ → List Token) (after : List Tick) (m : TraceEnd) : Type 0 where
  pub ticks_are : before ++ ticks a ins ≡ after
  pub trace_end_is : trace_end a ins ≡ m

-- an operation on stream s: whatever goes on with its value
abbrev pub GivesAnswer : Value → Point → ℕ → StreamOperation → Point → Type 0
GivesAnswer (Given v) P s how Q = (go : ℕ → Behavior) → GoesOn P.ticks (Await s how go) P.ins Q.ticks (go v) Q.ins
GivesAnswer (Stopped m) P s how Q = (go : ℕ → Behavior) → Stops P.ticks (Await s how go) P.ins Q.ticks m

-- the numbers of the streams at the positions of an instance
abbrev pub numbers : List ℕ → ℕ → ℕ
numbers streams p = slice_index streams p

-- what has a value, at the streams of an instance
abbrev pub GivesValue : (ℕ → ℕ) → Value → Point → ((ℕ → Behavior) → Behavior) → Point → Type 0
GivesValue f (Given v) P a Q = (go : ℕ → Behavior) → GoesOn P.ticks (at_streams f (a go)) P.ins Q.ticks (at_streams f (go v)) Q.ins
GivesValue f (Stopped m) P a Q = (go : ℕ → Behavior) → Stops P.ticks (at_streams f (a go)) P.ins Q.ticks m

-- what has two values, one after the other
abbrev pub GivesPair : (ℕ → ℕ) → Pair → Point → ((ℕ → ℕ → Behavior) → Behavior) → Point → Type 0
GivesPair f (GivenPair v w) P a Q = (go : ℕ → ℕ → Behavior) → GoesOn P.ticks (at_streams f (a go)) P.ins Q.ticks (at_streams f (go v w)) Q.ins
GivesPair f (StoppedPair m) P a Q = (go : ℕ → ℕ → Behavior) → Stops P.ticks (at_streams f (a go)) P.ins Q.ticks m

-- what goes on after a statement, a break and a continue
abbrev pub GivesFlow : (ℕ → ℕ) → Flow → Point → ((State → Behavior) → (State → Behavior) → (State → Behavior) → Behavior) → Point → Type 0
GivesFlow f Next P a Q = (go out again : State → Behavior) → GoesOn P.ticks (at_streams f (a go out again)) P.ins Q.ticks (at_streams f (go Q.state)) Q.ins
GivesFlow f Out P a Q = (go out again : State → Behavior) → GoesOn P.ticks (at_streams f (a go out again)) P.ins Q.ticks (at_streams f (out Q.state)) Q.ins
GivesFlow f Again P a Q = (go out again : State → Behavior) → GoesOn P.ticks (at_streams f (a go out again)) P.ins Q.ticks (at_streams f (again Q.state)) Q.ins
GivesFlow f (StoppedFlow m) P a Q = (go out again : State → Behavior) → Stops P.ticks (at_streams f (a go out again)) P.ins Q.ticks m

-- what a loop does after a test that holds
abbrev pub inside : {l m : _} → Kinds → ℕ → Row_of-Stmt l → Row_of-Stmt m → State → (State → Behavior) → (State → Behavior) → Behavior
inside K n body step σ go next =
    block K n body σ (λ σ'. block K n step σ' next go next) go (λ σ'. block K n step σ' next go next)

-- one turn of a loop
abbrev pub turn_of : Kinds → ℕ → Stmt → State → (State → Behavior) → (State → Behavior) → Behavior
turn_of K n (Loop' test p body q step) σ go next = expr test σ (λ v. Act Local (at_zero v (go σ) (inside K n body step σ go next)))
turn_of K n _ σ go next = OutOfTurns

-- a loop of at most m tests
abbrev pub loop_of : Kinds → ℕ → ℕ → Stmt → State → (State → Behavior) → (State → Behavior) → (State → Behavior) → Behavior
loop_of K n m (Loop' test p body q step) σ go out again = turns m (expr test) (λ σ' next. inside K n body step σ' go next) go σ
loop_of K n m _ σ go out again = OutOfTurns

abbrev pub turn_left : Flow → Turn
turn_left Next = On
turn_left Out = Over
turn_left Again = On
turn_left (StoppedFlow m) = StoppedTurn m

abbrev pub GivesTurn : (ℕ → ℕ) → Turn → Point → ((State → Behavior) → (State → Behavior) → Behavior) → Point → Type 0
GivesTurn f On P a Q = (go next : State → Behavior) → GoesOn P.ticks (at_streams f (a go next)) P.ins Q.ticks (at_streams f (next Q.state)) Q.ins
GivesTurn f Over P a Q = (go next : State → Behavior) → GoesOn P.ticks (at_streams f (a go next)) P.ins Q.ticks (at_streams f (go Q.state)) Q.ins
GivesTurn f (StoppedTurn m) P a Q = (go next : State → Behavior) → Stops P.ticks (at_streams f (a go next)) P.ins Q.ticks m
