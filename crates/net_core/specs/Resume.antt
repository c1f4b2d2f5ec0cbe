-- What it means that a body makes the ticks of its job.
use Rattle.std.specs.Prelude.{◌≡◌, ℕ, ◌+◌, ◌<◌, ◌≤◌, ◌^◌, List, ◌++◌, length, flat_map, Some, slice_get}
use Rattle.tapa_base.specs.declared.token.Token.{Token}
use Rattle.kahn_model.specs.declared.tick.Action.TheVariants.{Put}
use Rattle.kahn_model.specs.declared.tick.Tick.{Tick}
use Rattle.kahn_model.specs.declared.tick.Tick.TheVariants.{Did}
use Rattle.kahn_model.specs.declared.tick.TraceEnd.{TraceEnd}
use Rattle.kahn_model.specs.declared.tick.TraceEnd.TheVariants.{Ended, Needs, Bad}
use Rattle.kahn_model.specs.Behavior.{Behavior, ticks, trace_end}
use Rattle.kahn_model.specs.Network.{take_from}
use Rattle.kahn_model.specs.Prefix.{IsPrefixOf}
use Rattle.net_core.specs.declared.ports.Ports.{Ports}
use Rattle.net_core.specs.declared.body.Pause.{Pause}
use Rattle.net_core.specs.declared.body.Pause.TheVariants.{Ended as HasEnded, WantsRead, WantsWrite, BadToken, Fuel}
use Rattle.net_core.specs.Ports.{waiting, room_at, ends_of, Moved}
use Rattle.net_core.specs.Job.{Job}

-- the lists of a job that has made these ticks: the tokens that it took, and those that wait
abbrev pub lists_at : List Tick → Ports → ℕ → List Token
lists_at ts ports p = flat_map (take_from p) ts ++ waiting ports p

-- the ticks are the job's, on what it took and what waits
abbrev pub Agrees : (ℕ → Behavior) → List Tick → Ports → Type 0
Agrees job ts ports = (n : ℕ) × IsPrefixOf ts (ticks (job n) (lists_at ts ports))

-- what a call of resume asks
pub record CanResume (Stands : Job → List Tick → Type 0) (ports : Ports) (fuel : ℕ) : Type 0 where
  pub job : Job
  pub ticks : List Tick
  pub stands : Stands job ticks
  pub ends : ends_of ports ≡ job.ends
  pub agrees : Agrees job.behavior ticks ports
  pub fits : length ticks + fuel < 2 ^ 64

-- the port has room for the token that a tick puts
abbrev pub HasRoomAt : Ports → Tick → Type 0
HasRoomAt ports (Did (Put p t)) = 0 < room_at ports p
HasRoomAt ports _ = Unit {0}

-- the job has no more ticks on these lists, and this end
pub record StopsAt (job : ℕ → Behavior) (made : ℕ) (ins : ℕ → List Token) (m : TraceEnd) : Type 0 where
  pub tests : ℕ
  pub all : length (ticks (job tests) ins) ≡ made
  pub at : trace_end (job tests) ins ≡ m

-- it has this tick next
pub record GoesOnBy (job : ℕ → Behavior) (made : ℕ) (ins : ℕ → List Token) (t : Tick) : Type 0 where
  pub tests : ℕ
  pub next : slice_get (ticks (job tests) ins) made ≡ Some t

-- why a call made no more ticks
abbrev pub PausesBy : (ℕ → Behavior) → ℕ → (ℕ → List Token) → Ports → Type 0 → Pause → Type 0
PausesBy job made ins ports Spent HasEnded = StopsAt job made ins Ended
PausesBy job made ins ports Spent (WantsRead p) = StopsAt job made ins (Needs p)
PausesBy job made ins ports Spent (BadToken p) = StopsAt job made ins (Bad p)
PausesBy job made ins ports Spent (WantsWrite p) = (t : Token) × GoesOnBy job made ins (Did (Put p t)) × (room_at ports p ≡ 0)
PausesBy job made ins ports Spent Fuel = Spent × ((t : Tick) × GoesOnBy job made ins t × HasRoomAt ports t)

-- a call made the next ticks of the job, at most `fuel`
pub record Resumed (Stands : List Tick → Type 0) (job : ℕ → Behavior) (ts : List Tick) (before : Ports) (fuel : ℕ) (pause : Pause) (after : Ports) : Type 0 where
  pub made : List Tick
  pub within : length made ≤ fuel
  pub stands : Stands (ts ++ made)
  pub tests : ℕ
  pub are_next : IsPrefixOf (ts ++ made) (ticks (job tests) (lists_at ts before))
  pub moved : Moved before made after
  pub pauses : PausesBy job (length ts + length made) (lists_at ts before) after (length made ≡ fuel) pause
