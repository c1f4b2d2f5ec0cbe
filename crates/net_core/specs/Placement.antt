-- A job at the streams of its instance.
use Rattle.std.specs.Prelude.{◌≡◌, ℕ, ◌-◌, ◌<◌, List, [], ◌∷◌, length, drop}
use Rattle.kahn_model.specs.declared.tick.Action.{Action}
use Rattle.kahn_model.specs.declared.tick.Action.TheVariants.{Local, Put, Load, Store}
use Rattle.kahn_model.specs.declared.tick.Tick.{Tick}
use Rattle.kahn_model.specs.declared.tick.Tick.TheVariants.{Did, Take, See, End}
use Rattle.kahn_model.specs.declared.tick.TraceEnd.{TraceEnd}
use Rattle.kahn_model.specs.declared.tick.TraceEnd.TheVariants.{Ended, Needs, Bad, Turns}
use Rattle.kahn_model.specs.Prefix.{IsPrefixOf}
use Rattle.kahn_model.specs.Behavior.{Behavior, Finished, OutOfTurns, Act, Await, ticks}
use Rattle.kahn_model.specs.Network.{Network}
use Rattle.kahn_model.specs.Counts.{written, taken}
use Rattle.kahn_model.specs.Trace.{act_at, at_streams}
use Rattle.net_core.specs.declared.ports.Ports.{Ports}
use Rattle.net_core.specs.Ports.{waiting, room_at}

abbrev pub tick_at : (ℕ → ℕ) → Tick → Tick
tick_at f (Did a) = Did (act_at f a)
tick_at f (Take s t) = Take (f s) t
tick_at f (See s t) = See (f s) t
tick_at f End = End

abbrev pub trace_end_at : (ℕ → ℕ) → TraceEnd → TraceEnd
trace_end_at f Ended = Ended
trace_end_at f (Needs s) = Needs (f s)
trace_end_at f (Bad s) = Bad (f s)
trace_end_at f Turns = Turns

-- a job asks at these ports alone
abbrev pub AsksAt : (ℕ → Type 0) → Behavior → Type 0
AsksAt D Finished = Unit {0}
AsksAt D OutOfTurns = Unit {0}
AsksAt D (Act a rest) = AsksAt D rest
AsksAt D (Await p how rest) = D p × ((v : ℕ) → AsksAt D (rest v))

-- a job reads at the ports R and writes at the ports W
abbrev pub PutsAct : (ℕ → Type 0) → Action → Type 0
PutsAct W (Put p t) = W p
PutsAct W Local = Unit {0}
PutsAct W (Load a b) = Unit {0}
PutsAct W (Store a b c) = Unit {0}

abbrev pub IsAt : (ℕ → Type 0) → (ℕ → Type 0) → Behavior → Type 0
IsAt R W Finished = Unit {0}
IsAt R W OutOfTurns = Unit {0}
IsAt R W (Act a rest) = PutsAct W a × IsAt R W rest
IsAt R W (Await p how rest) = R p × ((v : ℕ) → IsAt R W (rest v))

abbrev pub TickAt : (ℕ → Type 0) → (ℕ → Type 0) → Tick → Type 0
TickAt R W (Did a) = PutsAct W a
TickAt R W (Take p t) = R p
TickAt R W (See p t) = R p
TickAt R W End = Unit {0}

abbrev pub AreAt : (ℕ → Type 0) → (ℕ → Type 0) → List Tick → Type 0
AreAt R W [] = Unit {0}
AreAt R W (t ∷ ts) = TickAt R W t × AreAt R W ts

-- instance i of a network has this behavior, whose positions are bound to these streams
pub record IsPlaced (net : Network) (i : ℕ) (job : ℕ → Behavior) (f : ℕ → ℕ) (R W : ℕ → Type 0) : Type 0 where
  pub inside : i < net.size
  pub placed : (n : ℕ) → net.job i n ≡ at_streams f (job n)
  pub at : (n : ℕ) → IsAt R W (job n)
  pub reads_one : (p q : ℕ) → R p → R q → f p ≡ f q → p ≡ q
  pub writes_one : (p q : ℕ) → W p → W q → f p ≡ f q → p ≡ q
  pub reader : (p : ℕ) → R p → net.consumer (f p) ≡ i
  pub writer : (p : ℕ) → W p → net.producer (f p) ≡ i

-- a body denotes the job of instance i after its ticks, on the tokens of its streams
pub record IsStanding (Stands : List Tick → Type 0) (net : Network) (k : ℕ → ℕ) (i : ℕ) (job : ℕ → Behavior) (f : ℕ → ℕ) : Type 0 where
  pub ticks : List Tick
  pub stands : Stands ticks
  pub count : length ticks ≡ k i
  pub tests : ℕ
  pub runs : IsPrefixOf ticks (Rattle.kahn_model.specs.Behavior.ticks (job tests) (λ p. written net k (f p)))

-- the ports of an instance hold what its streams have
pub record PortsAre (net : Network) (k : ℕ → ℕ) (ports : Ports) (f : ℕ → ℕ) (R W : ℕ → Type 0) : Type 0 where
  pub waits : (p : ℕ) → R p → waiting ports p ≡ drop (length (taken net k (f p))) (written net k (f p))
  pub room : (p : ℕ) → W p → room_at ports p ≡ net.depth (f p) - (length (written net k (f p)) - length (taken net k (f p)))
