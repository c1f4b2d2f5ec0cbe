-- What a pause says of a network's count.
use Rattle.std.specs.Prelude.{◌≡◌, ℕ, ◌-◌, ◌≤◌, length, Some, slice_get}
use Rattle.tapa_base.specs.declared.token.Token.{Token}
use Rattle.kahn_model.specs.declared.tick.Action.TheVariants.{Put}
use Rattle.kahn_model.specs.declared.tick.Tick.TheVariants.{Did}
use Rattle.kahn_model.specs.declared.tick.TraceEnd.{TraceEnd}
use Rattle.kahn_model.specs.declared.tick.TraceEnd.TheVariants.{Ended, Needs, Bad}
use Rattle.kahn_model.specs.Behavior.{ticks, trace_end}
use Rattle.kahn_model.specs.Network.{Network}
use Rattle.kahn_model.specs.Counts.{written, taken, IsAllowed, IsReachable, HasEnded as Ends}
use Rattle.kahn_model.specs.Outcome.{WaitsToRead, WaitsToWrite, HasBadToken}
use Rattle.net_core.specs.declared.body.Pause.{Pause}
use Rattle.net_core.specs.declared.body.Pause.TheVariants.{Ended as HasEnded, WantsRead, WantsWrite, BadToken, Fuel}

-- the run of instance i on what is written stops where the count is, with this end
pub record StopsIn (net : Network) (k : ℕ → ℕ) (i : ℕ) (m : TraceEnd) : Type 0 where
  pub tests : ℕ
  pub all : length (ticks (net.job i tests) (written net k)) ≡ k i
  pub at : trace_end (net.job i tests) (written net k) ≡ m

-- its next tick is a put on a stream that is full
pub record IsFullFor (net : Network) (k : ℕ → ℕ) (i : ℕ) (s : ℕ) : Type 0 where
  pub tests : ℕ
  pub token : Token
  pub is_next : slice_get (ticks (net.job i tests) (written net k)) (k i) ≡ Some (Did (Put s token))
  pub full : net.depth s ≤ length (written net k s) - length (taken net k s)

-- what a pause says: f gives the stream of each position
abbrev pub HoldsPause : Network → (ℕ → ℕ) → ℕ → (ℕ → ℕ) → Pause → Type 0
HoldsPause net k i f HasEnded = StopsIn net k i Ended
HoldsPause net k i f (WantsRead p) = StopsIn net k i (Needs (f p))
HoldsPause net k i f (BadToken p) = StopsIn net k i (Bad (f p))
HoldsPause net k i f (WantsWrite p) = IsFullFor net k i (f p)
HoldsPause net k i f Fuel = IsAllowed net k i

-- after these an instance makes no more ticks
abbrev pub IsLast : Pause → Type 0
IsLast HasEnded = Unit {0}
IsLast (WantsRead p) = ⊥
IsLast (BadToken p) = Unit {0}
IsLast (WantsWrite p) = ⊥
IsLast Fuel = ⊥

-- a pause of instance i was true at some reachable count that is at most k; an end and a bad token stay true
pub record HasHeld (net : Network) (k : ℕ → ℕ) (i : ℕ) (f : ℕ → ℕ) (x : Pause) : Type 0 where
  pub count : ℕ → ℕ
  pub reachable : IsReachable net count
  pub below : (j : ℕ) → count j ≤ k j
  pub held : HoldsPause net count i f x
  pub for_good : IsLast x → HoldsPause net k i f x

-- a pause says what its instance waits for
abbrev pub IsToldBy : Network → (ℕ → ℕ) → ℕ → (ℕ → ℕ) → Pause → Type 0
IsToldBy net k i f HasEnded = Ends net k i
IsToldBy net k i f (WantsRead p) = WaitsToRead net k i (f p)
IsToldBy net k i f (BadToken p) = HasBadToken net k i (f p)
IsToldBy net k i f (WantsWrite p) = WaitsToWrite net k i (f p)
IsToldBy net k i f Fuel = ⊥
