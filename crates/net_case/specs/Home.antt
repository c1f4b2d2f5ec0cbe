-- What a case holds at its count.
use Rattle.std.specs.Prelude.{◌≡◌, ◌⊎◌, ℕ, ◌*◌, ◌≤◌, ◌<◌, Bool, true, false, List, length, map, drop, take, is_none, Option, Some, slice_get, slice_index}
use Rattle.tapa_syntax.specs.declared.program.Program.{Program}
use Rattle.kahn_model.specs.declared.tick.Tick.{Tick}
use Rattle.kahn_model.specs.Network.{Network}
use Rattle.kahn_model.specs.Counts.{written, taken, IsAllowed, IsReachable, HasEnded}
use Rattle.kahn_model.specs.Outcome.{IsCapped, IsJoined, joined_ticks}
use Rattle.net_core.specs.declared.body.Pause.{Pause}
use Rattle.net_core.specs.declared.body.Pause.TheVariants.{Ended, Fuel}
use Rattle.net_core.specs.declared.input.Input.{Input}
use Rattle.net_core.specs.declared.ports.Ports.{Ports}
use Rattle.net_core.specs.Job.{Job}
use Rattle.net_core.specs.Ports.{waiting, carried, space_at, ends_of}
use Rattle.net_core.specs.Bindings.{ends_at, stream_at, depth_of, arity, Reads, Writes}
use Rattle.net_core.specs.Bounded.{network_on, count_of, IsGiven, AreBound, HaveAnswered, IsBodyAt}
use Rattle.net_core.specs.Waits.{HoldsPause}
use Rattle.net_case.specs.declared.batch.Process.{Process}
use Rattle.net_case.specs.declared.queue.Queue.{Queue}
use Rattle.net_case.specs.Queue.{waits, space}

-- which instances are out
abbrev pub outs : {B : Type 0} → List (Option (Process B)) → List Bool
outs homes = map is_none homes

-- the queue of stream s holds what is written and not taken; `took` tokens were taken, `gave` given to its reader
pub record IsStreamAt (program : Program) (net : Network) (k : ℕ → ℕ) (s : ℕ) (q : Queue) (took gave : ℕ) : Type 0 where
  pub took_is : took ≡ length (taken net k s)
  pub rest : waits q ≡ drop took (written net k s)
  pub within : took ≤ gave
  pub given : gave ≤ length (written net k s)
  pub space_is : 2 * depth_of program s ≤ space q

-- an instance that is at home is at the count
pub record IsHome {B : Type 0} (Stands : B → Job → List Tick → Type 0) (program : Program) (input : Input) (counts taken_list offered : List ℕ) (i : ℕ) (body : B) (ports : Ports)
    (limits : List ℕ) : Type 0 where
  pub standing : IsBodyAt (Stands body) program input counts i
  pub ends : ends_of ports ≡ ends_at program i
  pub limits_len : length limits ≡ arity program i
  pub carries : (p : ℕ) → Writes program i p → carried ports p ≡ written (network_on program input) (count_of counts) (stream_at program i p)
  pub waits_are :
      (p : ℕ) → Reads program i p
      → waiting ports p ≡ drop (slice_index taken_list (stream_at program i p))
      (take (slice_index offered (stream_at program i p)) (written (network_on program input) (count_of counts) (stream_at program i p)))
  pub spaces : (p : ℕ) → Reads program i p → 2 * depth_of program (stream_at program i p) ≤ space_at ports p

-- its last answer still says why it makes no step
pub record IsQuiet (net : Network) (k : ℕ → ℕ) (i : ℕ) (f : ℕ → ℕ) (x : Pause) : Type 0 where
  pub stopped : x ≡ Fuel → ⊥
  pub holds : HoldsPause net k i f x

-- or it may step, and nothing of the budget is left to it
pub record IsHeldBack (net : Network) (budget : ℕ) (k : ℕ → ℕ) (i : ℕ) (x : Pause) : Type 0 where
  pub fuel : x ≡ Fuel
  pub allowed : IsAllowed net k i
  pub joined : IsJoined net i → budget ≤ joined_ticks net k
  pub detached : net.detached i ≡ true → budget ≤ k i

-- instance i makes no step within the budget
abbrev pub IsAtRest : Network → ℕ → (ℕ → ℕ) → ℕ → (ℕ → ℕ) → List (Option Pause) → Type 0
IsAtRest net budget k i f pauses = (x : Pause) × (slice_get pauses i ≡ Some (Some x)) × (IsQuiet net k i f x ⊎ IsHeldBack net budget k i x)

-- the streams of a case at a count within a budget
pub record AreStreamsAt (program : Program) (input : Input) (budget : ℕ) (queues : List Queue) (taken_list offered counts : List ℕ) : Type 0 where
  pub given : IsGiven program input
  pub open given use *
  pub reachable : IsReachable (network_on program input) (count_of counts)
  pub capped : IsCapped (network_on program input) budget (count_of counts)
  pub few : budget ≤ 1000000000000
  pub queues_len : length queues ≡ length program.streams.items
  pub taken_len : length taken_list ≡ length program.streams.items
  pub offered_len : length offered ≡ length program.streams.items
  pub streams : (s : ℕ) (q : Queue) → slice_get queues s ≡ Some q → IsStreamAt program (network_on program input) (count_of counts) s q (slice_index taken_list s) (slice_index offered s)

-- a case is at its count
pub record IsCaseAt {B : Type 0} (Stands : B → Job → List Tick → Type 0) (program : Program) (input : Input) (budget : ℕ) (homes : List (Option (Process B))) (queues : List Queue)
    (taken_list offered counts : List ℕ) (pauses : List (Option Pause)) (listed : List Bool) (joined : ℕ) (writers : List ℕ) (fed_by_self : List Bool) : Type 0 where
  pub at : AreStreamsAt program input budget queues taken_list offered counts
  pub open at use *
  pub bound : AreBound program writers fed_by_self
  pub open bound use *
  pub answered : HaveAnswered program input counts pauses
  pub open answered use *
  -- who has ended has answered so
  pub unended : (i : ℕ) → i < length program.instances.items → (slice_get pauses i ≡ Some (Some Ended) → ⊥) → HasEnded (network_on program input) (count_of counts) i → ⊥
  pub homes_len : length homes ≡ length program.instances.items
  pub listed_len : length listed ≡ length program.instances.items
  pub home : (i : ℕ) (x : Process B) → slice_get homes i ≡ Some (Some x) → IsHome Stands program input counts taken_list offered i x.body x.ports x.limits.items
  -- who is at home and is not listed makes no step
  pub rest : (i : ℕ) (x : Process B) → slice_get homes i ≡ Some (Some x) → slice_get listed i ≡ Some false
      → IsAtRest (network_on program input) budget (count_of counts) i (stream_at program i) pauses
  pub joined_is : joined ≡ joined_ticks (network_on program input) (count_of counts)

-- there is room for all bodies and ports where they are put together again
pub record IsReadyFor (program : Program) (bodies ports body_room port_room : ℕ) : Type 0 where
  pub no_body : bodies ≡ 0
  pub no_port : ports ≡ 0
  pub bodies_fit : length program.instances.items ≤ body_room
  pub ports_fit : length program.instances.items ≤ port_room
