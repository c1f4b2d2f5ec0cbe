-- What it is for an instance to be out with a batch of its ticks.
use Rattle.std.specs.Prelude.{◌≡◌, ◌==◌, if◌then◌else◌, ◌⊎◌, ◌+◌, ◌-◌, ◌*◌, ◌<◌, ◌≤◌, ◌++◌}
use Rattle.std.specs.Prelude.{Bool, true, ℕ, List, length, flat_map, Option, Some, None, slice_get, slice_index}
use Rattle.tapa_syntax.specs.declared.program.Program.{Program}
use Rattle.tapa_syntax.specs.LeafKinds.{writes_of}
use Rattle.tapa_syntax.specs.WellFormed.{IsWellFormed}
use Rattle.kahn_model.specs.declared.tick.Tick.{Tick}
use Rattle.tapa_base.specs.declared.token.Token.{Token}
use Rattle.kahn_model.specs.declared.tick.Action.TheVariants.{Put}
use Rattle.kahn_model.specs.declared.tick.Tick.TheVariants.{Did}
use Rattle.kahn_model.specs.declared.tick.TraceEnd.{TraceEnd}
use Rattle.kahn_model.specs.declared.tick.TraceEnd.TheVariants.{Ended, Needs, Bad}
use Rattle.kahn_model.specs.Behavior.{Behavior, ticks, trace_end}
use Rattle.kahn_model.specs.Network.{Network, put_on}
use Rattle.kahn_model.specs.Counts.{written, taken, IsAllowed, IsReachable, HasEnded}
use Rattle.kahn_model.specs.Prefix.{IsPrefixOf}
use Rattle.net_core.specs.declared.ports.Ports.{Ports}
use Rattle.net_core.specs.declared.body.Pause.{Pause}
use Rattle.net_core.specs.declared.body.Pause.TheVariants.{Ended as SaysEnded, WantsRead, WantsWrite, BadToken, Fuel}
use Rattle.net_core.specs.Job.{Job}
use Rattle.net_core.specs.Ports.{waiting, carried, room_at, space_at, ends_of}
use Rattle.net_core.specs.Resume.{lists_at}
use Rattle.net_core.specs.declared.input.Input.{Input}
use Rattle.net_core.specs.Bindings.{IsConnected, IsFedBySelf, ends_at, stream_at, depth_of, arity, Reads, Writes}
use Rattle.net_core.specs.Bounded.{network_on, instance_job, count_of, IsNetworkOf}
use Rattle.net_core.specs.Waits.{HoldsPause, IsLast}
use Rattle.net_case.specs.declared.lot.Lot.{Lot}

-- a port that writes
abbrev pub WritesAt : Ports → ℕ → Type 0
WritesAt ports p = writes_of (ends_of ports) p ≡ Some true

-- ports whose tokens are as they were
pub record KeepsTokens (before after : Ports) : Type 0 where
  pub ends : ends_of after ≡ ends_of before
  pub carries : (p : ℕ) → carried after p ≡ carried before p
  pub waits : (p : ℕ) → waiting after p ≡ waiting before p
  pub spaces : (p : ℕ) → space_at before p ≤ space_at after p

-- each of the first m ports that writes has all the room that its stream has
abbrev pub AreRoomsWhole : List ℕ → ℕ → Ports → Type 0
AreRoomsWhole limits m ports = (p : ℕ) → p < m → WritesAt ports p → room_at ports p ≡ slice_index limits p - length (carried ports p)

-- m more ticks of instance i
abbrev pub with_ticks_of : ℕ → ℕ → (ℕ → ℕ) → ℕ → ℕ
with_ticks_of i m k j = if j == i then k j + m else k j

-- a body that was at the count k has made some more ticks of its job since, on the tokens that it had then
pub record HasRun (Stands : List Tick → Type 0) (net : Network) (k : ℕ → ℕ) (i : ℕ) (job : ℕ → Behavior) (f : ℕ → ℕ) (R W : ℕ → Type 0) (limits : List ℕ)
    (made : ℕ) (ports : Ports) : Type 0 where
  pub before : List Tick
  pub count : length before ≡ k i
  pub new : List Tick
  pub as_many : length new ≡ made
  pub stands : Stands (before ++ new)
  pub tests : ℕ
  pub runs : IsPrefixOf (before ++ new) (ticks (job tests) (λ p. written net k (f p)))
  -- what it took and what waits is what was written
  pub lists : (p : ℕ) → R p → lists_at (before ++ new) ports p ≡ written net k (f p)
  -- what it put follows what was written
  pub carries : (p : ℕ) → W p → carried ports p ≡ written net k (f p) ++ flat_map (put_on p) new
  -- the number of tokens that may be written in all
  pub limits_are : (p : ℕ) → W p → slice_index limits p ≡ length (taken net k (f p)) + net.depth (f p)
  -- the number of tokens that were there to be taken
  pub given_are : (p : ℕ) → R p → slice_index limits p ≡ length (written net k (f p))
  pub puts : (p : ℕ) → W p → 0 < length (flat_map (put_on p) new) → length (carried ports p) ≤ slice_index limits p

-- on the tokens that were written at the count k the run of instance i ends after `made` ticks more, with this mark
pub record EndsAfter (net : Network) (k : ℕ → ℕ) (i made : ℕ) (m : TraceEnd) : Type 0 where
  pub tests : ℕ
  pub all : length (ticks (net.job i tests) (written net k)) ≡ k i + made
  pub at : trace_end (net.job i tests) (written net k) ≡ m

-- on these tokens its next tick is a put on stream s, whose depth is used up by what was written and not taken at the count k and
-- what the instance itself has put there since
pub record FillsAfter (net : Network) (k : ℕ → ℕ) (i made s : ℕ) : Type 0 where
  pub tests : ℕ
  pub token : Token
  pub is_next : slice_get (ticks (net.job i tests) (written net k)) (k i + made) ≡ Some (Did (Put s token))
  pub full : net.depth s ≤ length (written net (with_ticks_of i made k) s) - length (taken net k s)

-- why it made no more ticks, where it had not spent its fuel: f gives the stream of each position
abbrev pub StopsAfter : Network → (ℕ → ℕ) → ℕ → ℕ → (ℕ → ℕ) → Pause → Type 0
StopsAfter net k i made f SaysEnded = EndsAfter net k i made Ended
StopsAfter net k i made f (WantsRead p) = EndsAfter net k i made (Needs (f p))
StopsAfter net k i made f (BadToken p) = EndsAfter net k i made (Bad (f p))
StopsAfter net k i made f (WantsWrite p) = FillsAfter net k i made (f p)
StopsAfter net k i made f Fuel = Unit {0}

-- what an answer says of instance i after `made` ticks more than in the count k: why it made no more, on the tokens and the
-- room of that count; whether it has ended; and what holds of the new count: where it does not read what it writes itself the
-- answer does, else an end, a bad token, that it may go on, and each answer to no tick
pub record HasSaid (net : Network) (k : ℕ → ℕ) (i made : ℕ) (f : ℕ → ℕ) (fed_by_self : Type 0) (x : Pause) : Type 0 where
  pub stops : StopsAfter net k i made f x
  pub goes_on : (x ≡ SaysEnded → ⊥) → HasEnded net (with_ticks_of i made k) i → ⊥
  pub holds : (fed_by_self → ⊥) ⊎ ((made ≡ 0) ⊎ (IsLast x ⊎ (x ≡ Fuel))) → HoldsPause net (with_ticks_of i made k) i f x

-- instance i goes out at the count `at`, at which it could make a step, with this fuel
pub record IsClaimed (program : Program) (input : Input) (budget : ℕ) (at : List ℕ) (i from fuel : ℕ) (limits : List ℕ) : Type 0 where
  pub connected : IsConnected program
  pub network : IsNetworkOf program input
  pub well_formed : IsWellFormed program
  pub reachable : IsReachable (network_on program input) (count_of at)
  pub allowed : IsAllowed (network_on program input) (count_of at) i
  pub inside : i < length program.instances.items
  pub begins : from ≡ count_of at i
  pub few : budget ≤ 1000000000000
  pub capped : from + fuel ≤ budget
  pub limits_len : length limits ≡ arity program i

-- an instance is out with a batch that was claimed so, and has made some ticks
pub record IsBatchAt {B : Type 0} (Stands : B → Job → List Tick → Type 0) (program : Program) (input : Input) (budget : ℕ) (at : List ℕ) (i from fuel made : ℕ) (pause : Option Pause)
    (ready : Bool) (body : B) (ports : Ports) (limits : List ℕ) : Type 0 where
  pub claimed : IsClaimed program input budget at i from fuel limits
  pub open claimed use *
  pub within : made ≤ fuel
  pub ends : ends_of ports ≡ ends_at program i
  pub spaces : (p : ℕ) → Reads program i p → 2 * depth_of program (stream_at program i p) ≤ space_at ports p
  pub run : HasRun (Stands body (instance_job program input i)) (network_on program input) (count_of at) i (instance_job program input i).behavior (stream_at program i) (Reads program i)
      (Writes program i) limits made ports
  pub unrun : pause ≡ None → made ≡ 0
  pub says : (x : Pause) → pause ≡ Some x → HasSaid (network_on program input) (count_of at) i made (stream_at program i) (IsFedBySelf program i) x
  pub rooms : ready ≡ true → AreRoomsWhole limits (length limits) ports

-- two states of one batch, which may differ in what it has made
pub record IsSameLot (a b : Lot) : Type 0 where
  pub program : b.program ≡ a.program
  pub input : b.input ≡ a.input
  pub budget : b.budget ≡ a.budget
  pub instance : b.instance ≡ a.instance
  pub at : b.at ≡ a.at
  pub from : b.from ≡ a.from
  pub fuel : b.fuel ≡ a.fuel

-- it was resumed, and answered so: it has made all ticks that its fuel, its tokens and its room allow, and with some fuel a
-- tick at least
pub record Ran (a b : Lot) (pause : Pause) : Type 0 where
  pub same : IsSameLot a b
  pub ready : b.ready ≡ true
  pub more : a.made ≤ b.made
  pub within : b.made ≤ b.fuel
  pub last : b.pause ≡ Some pause
  pub some : 0 < a.fuel → 0 < b.made
  pub spent : pause ≡ Fuel → b.made ≡ b.fuel
  pub says : HasSaid (network_on b.program b.input) (count_of b.at) b.instance b.made (stream_at b.program b.instance) (IsFedBySelf b.program b.instance) pause

-- there is memory for what it may write, and nothing else has changed
pub record IsPrepared (a b : Lot) : Type 0 where
  pub same : IsSameLot a b
  pub ready : b.ready ≡ true
  pub made : b.made ≡ a.made
  pub pause : b.pause ≡ a.pause

-- at every later reachable count at which the batch's instance has made no tick since, its ticks lead to a reachable count,
-- and it stays within the budget
abbrev pub CommitsAnywhere : Lot → Type 0
CommitsAnywhere b =
    (b.from + b.made ≤ b.budget) × ((m : ℕ → ℕ) → IsReachable (network_on b.program b.input) m → ((j : ℕ) → count_of b.at j ≤ m j) → m b.instance ≡ b.from
    → IsReachable (network_on b.program b.input) (with_ticks_of b.instance b.made m))
